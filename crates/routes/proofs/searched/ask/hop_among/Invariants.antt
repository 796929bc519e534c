-- So far back the hop at place i is the same, and a hop fewer is left for each step.
use Rattle.std.proofs.Common.{◌≡◌, ℕ, ◌+◌, Some}
use Rattle.std.specs.List.{slice_get}
use Rattle.routes.specs.Search.{way_to}
use Rattle.routes.proofs.searched.ask.hop_among.Given as goal

abbrev pub invariant-loop-back : goal.invariant-loop-back
invariant-loop-back g l = record {
  settled : (place : ℕ) × (slice_get l.settled place ≡ Some l.a);
  hops : l.a.hops + l._back ≡ l._back-end + (l.i + 1);
  same : slice_get (way_to l.settled l.a) l.i ≡ slice_get (way_to l.settled l.initial.a) l.i;
}
