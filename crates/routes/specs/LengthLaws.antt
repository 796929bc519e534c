-- The laws of a kind of length; its order is that of a `Rank`: x is better than y if it is before y.
use Rattle.std.specs.Prelude.{◌≡◌, Bool, false}
use Rattle.model.specs.declared.network.Link.{Link}

pub record LengthLaws {X : Type 0} (before : X → X → Bool) (longer : X → Link → X) : Type 0 where
  -- one link more never gives a better length
  pub never_better : (x : X) (l : Link) → before (longer x l) x ≡ false
  -- a length that is not worse than another stays so when both are lengthened by the same link
  pub stays_so : (x y : X) (l : Link) → before y x ≡ false → before (longer y l) (longer x l) ≡ false
