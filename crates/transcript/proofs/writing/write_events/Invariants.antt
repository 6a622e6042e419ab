use Rattle.std.proofs.Common.{◌≡◌, ◌++◌, drop, string_bytes}
use Rattle.std.specs.List.{flat_map}
use Rattle.transcript.specs.Text.{event_line}
use Rattle.transcript.proofs.writing.write_events.Given as goal

abbrev pub invariant-loop-event : goal.invariant-loop-event
invariant-loop-event l =
    string_bytes l.initial.text ++ flat_map event_line l.events
    ≡ string_bytes l.text ++ flat_map event_line (drop l.event-index l.events)
