-- Bits in a row of 64-bit words.
use Rattle.std.specs.Prelude.{◌≡◌, ℕ, ◌+◌, ◌/◌, ◌%◌, ◌<◌, ◌≤◌, ◌⊎◌, List, slice_index}
use Rattle.std.specs.Int.{bit_at}

-- bit t of the row, 0 or 1: bit t % 64 of word t / 64
unfoldable pub bit_of : List ℕ → ℕ → ℕ
bit_of words t = bit_at (slice_index words (t / 64)) (t % 64)

-- the bits from s up to e are v
abbrev pub EachBit : List ℕ → ℕ → ℕ → ℕ → Type 0
EachBit words v s e = (t : ℕ) → s ≤ t → t < e → bit_of words t ≡ v

-- one of d bits from s on is set
abbrev pub HasSetBit : List ℕ → ℕ → ℕ → Type 0
HasSetBit words s d = (t : ℕ) × (s ≤ t) × (t < s + d) × (bit_of words t ≡ 1)

-- d bits from s on are clear and before e, and from no place before s, from `from` on, are d bits clear
pub record IsFirstGap (words : List ℕ) (from e d s : ℕ) : Type 0 where
  pub late_enough : from ≤ s
  pub in_time : s + d ≤ e
  pub clear : EachBit words 0 s (s + d)
  pub not_before : (k : ℕ) → from ≤ k → k < s → HasSetBit words k d

-- where v is written to the bits from s up to e, `new` is what `old` becomes
pub record IsWritten (old new : List ℕ) (v s e : ℕ) : Type 0 where
  pub inside : EachBit new v s e
  pub outside : (t : ℕ) → (t < s) ⊎ (e ≤ t) → bit_of new t ≡ bit_of old t

-- the bits of a word from place `low` up to place `high` are v
abbrev pub EachPlace : ℕ → ℕ → ℕ → ℕ → Type 0
EachPlace word v low high = (i : ℕ) → low ≤ i → i < high → bit_at word i ≡ v

-- one of n places of a word from s on is v
abbrev pub HasPlace : ℕ → ℕ → ℕ → ℕ → Type 0
HasPlace word v s n = (i : ℕ) × (s ≤ i) × (i < s + n) × (bit_at word i ≡ v)

-- the ones of `starts` are the places from which n places of the word are ones
pub record AreRuns (word starts n : ℕ) : Type 0 where
  pub whole : (i : ℕ) → bit_at starts i ≡ 1 → EachPlace word 1 i (i + n)
  pub broken : (i : ℕ) → bit_at starts i ≡ 0 → HasPlace word 0 i n
