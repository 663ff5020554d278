-- For the proofs only.
use Rattle.std.specs.Prelude.{Option, Some, None}
use Rattle.judge.specs.Judge.{Stretch, Spans}
use Rattle.judge.specs.declared.Span.{Span}

-- a stretch by its start and its end, or none where it is nowhere
abbrev pub Found : Option Span → Stretch → Type 0
Found None s = Spans 0 0 s
Found (Some p) s = Spans p.start p.end s
