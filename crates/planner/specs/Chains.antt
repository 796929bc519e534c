-- Calls that end at the first refusal.
use Rattle.std.specs.Prelude.{List, [], ◌∷◌, Some, None, Ok, Err, Option, Result}
use Rattle.model.specs.Refusals.{or_else}
use Rattle.model.specs.declared.refusal.Refusal.{Refusal}

-- the next part of a call, which learns what the part before it gave
abbrev pub and_then : {A B : Type 0} → Result A Refusal → (A → Result B Refusal) → Result B Refusal
and_then (Ok a) next = next a
and_then (Err e) next = Err e

-- the first of several refusals, if there is one
abbrev pub first_of : List (Option Refusal) → Option Refusal
first_of [] = None
first_of (r ∷ rs) = or_else r (first_of rs)

-- a call that is refused beforehand, or else carried out
abbrev pub unless : {A : Type 0} → Option Refusal → Result A Refusal → Result A Refusal
unless None call = call
unless (Some e) call = Err e
