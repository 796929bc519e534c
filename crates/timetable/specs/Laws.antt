-- What holds of every table. The crates above cite these laws, and not how `free`, `earliest` and `Sound` are written.
use Rattle.std.specs.Prelude.{◌≡◌, ℕ, ◌+◌, ◌<◌, ◌≤◌, true, false, ◌↔◌, ◌⊎◌, [], All, AllPairs, Contains, Some, None, Ok, IsPermutation}
use Rattle.model.specs.Bookings.{end, collide}
use Rattle.model.specs.declared.booking.Booking.{Booking}
use Rattle.timetable.specs.Tables.{Table, bookings_of, span, free}
use Rattle.timetable.specs.Earliest.{earliest}
use Rattle.timetable.specs.Changes.{is_free_for, with_booking, booked_answer, booked, taken_back_answer, taken_back}
use Rattle.timetable.specs.Apart.{Meet, Apart}
use Rattle.timetable.specs.Parts.{IsPart}
use Rattle.timetable.specs.Sound.{Sound}

-- two bookings collide exactly if they are of one resource and share a tick
abbrev pub CollideInWords : Type 0
CollideInWords = (a b : Booking) → (collide a b ≡ true) ↔ Meet a b

-- when a resource is free

-- there is at least one tick, the last is before the horizon, there is such a resource, and no booking of it has one of the ticks
pub record IsFree (T : Table) (r s d : ℕ) : Type 0 where
  pub some_tick : 1 ≤ d
  pub in_time : s + d ≤ T.horizon
  pub known : r ≤ 47
  pub clear : All (Apart (span r s d)) T.bookings

-- `free` says whether it is so
abbrev pub FreeInWords : Type 0
FreeInWords = (T : Table) (r s d : ℕ) → (free T r s d ≡ true) ↔ IsFree T r s d

-- with one more booking, a resource is free exactly where it was free before and that booking is not in the way
abbrev pub FreeWithOneMore : Type 0
FreeWithOneMore = (T : Table) (b : Booking) (r s d : ℕ) → (free (with_booking T b) r s d ≡ true) ↔ ((free T r s d ≡ true) × Apart (span r s d) b)

-- what is free among some bookings is free among fewer
abbrev pub FreeAmongFewer : Type 0
FreeAmongFewer =
    (T U : Table) (r s d : ℕ) → T.horizon ≡ U.horizon → ((b : Booking) → Contains T.bookings b → Contains U.bookings b) → free U r s d ≡ true → free T r s d ≡ true

-- whether a resource is free depends on the horizon and on its own bookings alone
abbrev pub FreeByItsOwn : Type 0
FreeByItsOwn = (T U : Table) (r s d : ℕ) → T.horizon ≡ U.horizon → bookings_of T r ≡ bookings_of U r → free T r s d ≡ free U r s d

-- which start is the earliest

-- at s the resource is free, and at no earlier start from `from` on
pub record IsEarliest (T : Table) (r from d s : ℕ) : Type 0 where
  pub late_enough : from ≤ s
  pub free_there : free T r s d ≡ true
  pub not_before : (k : ℕ) → from ≤ k → k < s → free T r k d ≡ false

-- `earliest` answers s exactly if s is it
abbrev pub EarliestIsFirst : Type 0
EarliestIsFirst = (T : Table) (r from d s : ℕ) → (earliest T r from d ≡ Some s) ↔ IsEarliest T r from d s

-- it answers none exactly if the resource is free at no start from `from` on
abbrev pub NoEarliest : Type 0
NoEarliest = (T : Table) (r from d : ℕ) → (earliest T r from d ≡ None) ↔ ((s : ℕ) → from ≤ s → free T r s d ≡ false)

-- a booking of the resource ends at s
abbrev pub IsAnEnd : Table → ℕ → ℕ → Type 0
IsAnEnd T r s = (b : Booking) × Contains T.bookings b × (b.resource ≡ r) × (end b ≡ s)

-- the earliest start is the tick that is asked from, or the end of a booking of the resource
abbrev pub EarliestIsAnEnd : Type 0
EarliestIsAnEnd = (T : Table) (r from d s : ℕ) → earliest T r from d ≡ Some s → (s ≡ from) ⊎ IsAnEnd T r s

-- the earliest start depends on the horizon and on the resource's own bookings alone
abbrev pub EarliestByItsOwn : Type 0
EarliestByItsOwn = (T U : Table) (r from d : ℕ) → T.horizon ≡ U.horizon → bookings_of T r ≡ bookings_of U r → earliest T r from d ≡ earliest U r from d

-- which tables are sound

-- those of which no two bookings collide
abbrev pub SoundByTest : Type 0
SoundByTest = (T : Table) → Sound T ↔ AllPairs (λ a b. collide a b ≡ false) T.bookings

-- those with no bookings
abbrev pub SoundWhenEmpty : Type 0
SoundWhenEmpty = (T : Table) → T.bookings ≡ [] → Sound T

-- one with a booking added, exactly if it was sound before and that booking shares no tick with another of its resource
abbrev pub SoundWithOneMore : Type 0
SoundWithOneMore = (T : Table) (b : Booking) → Sound (with_booking T b) ↔ (Sound T × All (Apart b) T.bookings)

-- so one with a booking added where the resource was free
abbrev pub SoundWhereFree : Type 0
SoundWhereFree = (T : Table) (b : Booking) → Sound T → is_free_for T b ≡ true → Sound (with_booking T b)

-- one with the bookings of a sound table in another order
abbrev pub SoundInAnyOrder : Type 0
SoundInAnyOrder = (T U : Table) → IsPermutation T.bookings U.bookings → Sound T → Sound U

-- one with some of the bookings of a sound table left out
abbrev pub SoundInPart : Type 0
SoundInPart = (T U : Table) → IsPart T.bookings U.bookings → Sound U → Sound T

-- booking and taking back

-- booking, refused or not, leaves a sound table sound
abbrev pub BookKeepsSound : Type 0
BookKeepsSound = (T : Table) (b : Booking) → Sound T → Sound (booked T b)

-- so does taking back
abbrev pub TakeBackKeepsSound : Type 0
TakeBackKeepsSound = (T : Table) → Sound T → Sound (taken_back T)

-- what was booked is what is taken back, and the table is then what it was
pub record IsUndone (T : Table) (b : Booking) : Type 0 where
  pub answer : taken_back_answer (booked T b) ≡ Ok b
  pub table : taken_back (booked T b) ≡ T

-- a booking that was not refused is undone by taking back
abbrev pub TakeBackUndoes : Type 0
TakeBackUndoes = (T : Table) (b : Booking) → booked_answer T b ≡ Ok tt → IsUndone T b
