use Rattle.std.specs.Prelude.{List, ◌++◌, length, drop}

-- `first`, and behind it what `old` holds there
abbrev pub over : {X : Type 0} → List X → List X → List X
over first old = first ++ drop (length first) old
