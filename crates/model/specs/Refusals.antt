-- The number and the detail of each refusal, and the first refusal of a list of records.
use Rattle.std.specs.Prelude.{◌≡◌, ℕ, ◌+◌, List, [], ◌∷◌, Some, None, Ok, Err, Option, Result, if◌then◌else◌, codes, decimal}
use Rattle.std.specs.List.{concat}
use Rattle.std.specs.Borrow.{Bor}
use Rattle.model.specs.Lengths.{within}
use Rattle.model.specs.declared.refusal.Refusal.{Refusal}
use Rattle.model.specs.declared.refusal.Refusal.TheVariants.{ListLength, ValueLimits, BadEdge, BadLink, NoMachine, BadRoute, NoSuchTask, NotAMachine, AlreadyPlaced, PredecessorUnplaced, NothingToTakeBack, NoRoute, NoRoom, NoStart, EveryMachineRefuses, NotInOrder}

abbrev pub refusal_number : Refusal → ℕ
refusal_number (ListLength n) = 1
refusal_number (ValueLimits i) = 4
refusal_number (BadEdge e) = 6
refusal_number (BadLink l) = 7
refusal_number NoMachine = 8
refusal_number (BadRoute p) = 9
refusal_number (NoSuchTask t) = 11
refusal_number (NotAMachine m) = 12
refusal_number (AlreadyPlaced t) = 13
refusal_number (PredecessorUnplaced t) = 14
refusal_number NothingToTakeBack = 15
refusal_number (NoRoute e) = 16
refusal_number (NoRoom n) = 17
refusal_number (NoStart r) = 18
refusal_number (EveryMachineRefuses t) = 19
refusal_number NotInOrder = 20

abbrev pub refusal_detail : Refusal → ℕ
refusal_detail (ListLength n) = n
refusal_detail (ValueLimits i) = i
refusal_detail (BadEdge e) = e
refusal_detail (BadLink l) = l
refusal_detail NoMachine = 0
refusal_detail (BadRoute p) = p
refusal_detail (NoSuchTask t) = t
refusal_detail (NotAMachine m) = m
refusal_detail (AlreadyPlaced t) = t
refusal_detail (PredecessorUnplaced t) = t
refusal_detail NothingToTakeBack = 0
refusal_detail (NoRoute e) = e
refusal_detail (NoRoom n) = n
refusal_detail (NoStart r) = r
refusal_detail (EveryMachineRefuses t) = t
refusal_detail NotInOrder = 0

-- the number and the detail, in decimal
abbrev pub refusal_text : Refusal → List ℕ
refusal_text r = concat (decimal (refusal_number r) ∷ codes " " ∷ decimal (refusal_detail r) ∷ [])

-- a list of n elements is shorter or longer than its limits
abbrev pub length_refusal : ℕ → ℕ → ℕ → Option Refusal
length_refusal least most n = if within least most n then None else Some (ListLength n)

-- the first answer, if there is one
abbrev pub or_else : {E : Type 0} → Option E → Option E → Option E
or_else None o = o
or_else (Some x) o = Some x

-- what the first refused element of a list says; `refuse` is given its place
abbrev pub first_refusal : {X E : Type 0} → (ℕ → X → Option E) → ℕ → List X → Option E
first_refusal refuse i [] = None
first_refusal refuse i (x ∷ xs) = or_else (refuse i x) (first_refusal refuse (i + 1) xs)

-- why a maker refused, if it did
abbrev pub refusal_of : {X E : Type 0} → Result X E → Option E
refusal_of (Ok x) = None
refusal_of (Err e) = Some e

-- whatever a test answers of an item at a place is what `refuse` says of it
abbrev pub RefusesBy : {X E : Type 0} → (ℕ → Bor X → Result (Unit {0}) E → Type 0) → (ℕ → X → Option E) → Type 0
RefusesBy {X} {E} answers refuse = (i : ℕ) (x : Bor X) (r : Result (Unit {0}) E) → answers i x r → refusal_of r ≡ refuse i x.now
