-- The two kinds of length.
use Rattle.std.specs.Prelude.{ℕ, ◌+◌, ◌-◌, ◌^◌, min, max, Bool, nat_lt}
use Rattle.model.specs.Lengths.{ticks}
use Rattle.model.specs.declared.network.Link.{Link}
use Rattle.routes.specs.declared.kinds.hop_count.HopCount.{HopCount}
use Rattle.routes.specs.declared.kinds.slowness.Slowness.{Slowness}

-- x + n, but no more than the greatest number of 32 bits; an x that is beyond it stays
abbrev pub capped_sum : ℕ → ℕ → ℕ
capped_sum x n = max x (min (x + n) (2 ^ 32 - 1))

-- the hop count: a way is better with fewer hops
abbrev pub fewer : HopCount → HopCount → Bool
fewer x y = nat_lt x.count y.count

abbrev pub no_hop : HopCount
no_hop = record { count = 0 }

-- one hop more
abbrev pub one_hop_more : HopCount → Link → HopCount
one_hop_more x l = record { count = capped_sum x.count 1 }

-- how slow a link is: a million by its speed, rounded up
abbrev pub slowness_of : Link → ℕ
slowness_of l = ticks 1000000 l.speed

-- slowness: a way is better where its links are less slow together
abbrev pub faster : Slowness → Slowness → Bool
faster x y = nat_lt x.total y.total

abbrev pub no_delay : Slowness
no_delay = record { total = 0 }

-- the slowness with one link more
abbrev pub slower_by : Slowness → Link → Slowness
slower_by x l = record { total = capped_sum x.total (slowness_of l) }
