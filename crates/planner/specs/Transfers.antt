-- Booking the hops of a transfer: each at the earliest start that the hops before it allow.
use Rattle.std.specs.Prelude.{ℕ, ◌+◌, ◌-◌, max, List, [], ◌∷◌, ok_or, Ok, Result}
use Rattle.model.specs.Bookings.{link_resource}
use Rattle.model.specs.Data.{NetData, transfer_length}
use Rattle.model.specs.declared.refusal.Refusal.{Refusal}
use Rattle.model.specs.declared.refusal.Refusal.TheVariants.{NoStart}
use Rattle.routes.specs.declared.hop.Hop.{Hop}
use Rattle.timetable.specs.Changes.{with_booking}
use Rattle.timetable.specs.Earliest.{earliest}
use Rattle.timetable.specs.Tables.{Table, span}
use Rattle.planner.specs.Chains.{and_then}

-- a question to the timetable; where there is no start, the resource is named
abbrev pub ask : Table → ℕ → ℕ → ℕ → Result ℕ Refusal
ask T r from d = ok_or (earliest T r from d) (NoStart r)

-- a booked transfer: the starts of its hops, its last finish, and the table with its bookings
pub record Carried : Type 0 where
  pub starts : List ℕ
  pub arrival : ℕ
  pub table : Table

-- a transfer with no hop is where it is to be
abbrev pub stay : ℕ → Table → Carried
stay now T = record { starts = []; arrival = now; table = T }

abbrev pub with_start : ℕ → Carried → Carried
with_start s c = record c { starts = s ∷ c.starts }

-- one hop of length d is booked at its earliest start from a tick on, and then the rest, which learns that start
abbrev pub hop_then : Hop → ℕ → ℕ → Table → (ℕ → Table → Result Carried Refusal) → Result Carried Refusal
hop_then h d from T rest =
    and_then (ask T (link_resource h.link) from d) (λ s.
    and_then (rest s (with_booking T (span (link_resource h.link) s d))) (λ c. Ok (with_start s c)))

-- the later hops: each from the first start, and from the previous finish less its own length
unfoldable pub carry_on : NetData → ℕ → ℕ → ℕ → List Hop → Table → Result Carried Refusal
carry_on N v first previous [] T = Ok (stay previous T)
carry_on N v first previous (h ∷ hops) T =
    hop_then h (transfer_length N v h.link) (max first (previous - transfer_length N v h.link)) T (λ s.
    carry_on N v first (s + transfer_length N v h.link) hops)

-- a transfer of volume v over some hops: the first from the tick of its departure
abbrev pub carry : NetData → ℕ → ℕ → List Hop → Table → Result Carried Refusal
carry N v departure [] T = Ok (stay departure T)
carry N v departure (h ∷ hops) T =
    hop_then h (transfer_length N v h.link) departure T (λ s.
    carry_on N v s (s + transfer_length N v h.link) hops)
