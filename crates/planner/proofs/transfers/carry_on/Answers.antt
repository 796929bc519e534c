use Rattle.std.proofs.Common.{◌≡◌, ℕ, [], ◌∷◌, ◌++◌, ◌-◌, ◌<◌, true, max, drop, length, is_ok, Some, None, Ok, Err, ap, ◌∙◌, rules, lt-ltb, arith}
use Rattle.std.specs.List.{slice_get}
use Rattle.std.proofs.lemmas.List.{length_push}
use Rattle.model.specs.Data.{net_of, transfer_length}
use Rattle.model.specs.Plans.{starts_of}
use Rattle.model.specs.Bookings.{end}
use Rattle.model.proofs.Networks.{of_network}
use Rattle.model.specs.declared.network.Network.{Network}
use Rattle.routes.specs.declared.hop.Hop.{Hop}
use Rattle.routes.specs.Hops.{hops_of}
use Rattle.timetable.specs.Tables.{Table}
use Rattle.timetable.specs.Changes.{with_booking}
use Rattle.planner.specs.Booked.{after_starts, seek_leg, carried}
use Rattle.planner.specs.Transfers.{carry_on}
use Rattle.planner.proofs.Carrying.{link_of_hop, few_hops, hop_within, hop_there, no_hop_there, start_written, next, stops, done, moves_on}
use Rattle.planner.proofs.transfers.carry_on.Goals as goal

-- what a hop is asked, at what the code holds
asked : (v : ℕ) (h : Hop) (previous : ℕ) (T : Table) {n m : Network} {f first : ℕ} → n ≡ m → f ≡ first
    → seek_leg (net_of n) v h (max f (previous - transfer_length (net_of n) v h.link)) T ≡ seek_leg (net_of m) v h (max first (previous - transfer_length (net_of m) v h.link)) T
asked v h previous T {n} {m} {f} {first} e d =
    ap (λ x. seek_leg (net_of x) v h (max f (previous - transfer_length (net_of x) v h.link)) T) e
    ∙ ap (λ x. seek_leg (net_of m) v h (max x (previous - transfer_length (net_of m) v h.link)) T) d

pub book_hop-requires-clause-link : goal.book_hop-requires-clause-link
book_hop-requires-clause-link g c =
    let r = c.args.routes.now in
    let n = g.R.Routes.over r in
    link_of_hop (net_of n) (g.R.Routes.route r) (g.met.R.Routes.keeps r) (of_network n) c.args.transfer.from c.args.transfer.to c.count.result c.in-Some.hop c.in-Some.ensures

pub unwrap-requires : goal.unwrap-requires
unwrap-requires g c =
    let r = c.args.routes.now in
    let N = net_of (g.R.Routes.over r) in
    let hops = hops_of (g.R.Routes.route r c.args.transfer.from c.args.transfer.to) in
    let ss = starts_of c.loop-hop.booked.row in
    let at : slice_get hops (length ss) ≡ Some c.in-Some.hop = hop_there hops c.count.result (length ss) c.in-Some.hop c.in-Some.ensures c.count.ensures in
    let few = few_hops N (g.R.Routes.route r) (g.met.R.Routes.keeps r) c.args.transfer.from c.args.transfer.to in
    let room : length ss < 15 = omega (arith, hop_within hops (length ss) c.in-Some.hop at, few) in
    let ok : is_ok c.push.result ≡ true = c.push.ensures.fits ∙ lt-ltb (length ss) 15 room in
    search rules

pub returns-in_err-leg-clause-answer : goal.returns-in_err-leg-clause-answer
returns-in_err-leg-clause-answer g c =
    let r = c.args.routes.now in
    let N = net_of (g.R.Routes.over r) in
    let hops = hops_of (g.R.Routes.route r c.args.transfer.from c.args.transfer.to) in
    let v = c.args.transfer.volume in
    let A = g.T.Askable.meaning c.args.table.now in
    let begun = starts_of c.args.booked.row in
    let whole = after_starts begun (carry_on N v c.args.first c.args.booked.arrival (drop (length begun) hops) A) in
    let ss = starts_of c.loop-hop.booked.row in
    let previous = c.loop-hop.booked.arrival in
    let T = g.T.Askable.meaning c.loop-hop.table in
    let at : slice_get hops (length ss) ≡ Some c.in-Some.hop = hop_there hops c.count.result (length ss) c.in-Some.hop c.in-Some.ensures c.count.ensures in
    let x = c.in_err-leg.field-0.0 in
    let was : c.from_residual.result ≡ Err x = search rules in
    let refused : Err x ≡ seek_leg N v c.in-Some.hop (max c.args.first (previous - transfer_length N v c.in-Some.hop.link)) T =
    c.in_err-leg.ensures.answer ∙ asked v c.in-Some.hop previous T c.network-network.ensures c.from.ensures
    in
    ap (λ a. carried a (g.T.Askable.meaning c.book_hop.new.table)) was
    ∙ stops N v c.args.first hops whole A (length begun) ss previous T c.loop-hop.invariant c.in-Some.hop at x refused

pub loop-hop-preserved : goal.loop-hop-preserved
loop-hop-preserved g c =
    let r = c.args.routes.now in
    let N = net_of (g.R.Routes.over r) in
    let hops = hops_of (g.R.Routes.route r c.args.transfer.from c.args.transfer.to) in
    let v = c.args.transfer.volume in
    let A = g.T.Askable.meaning c.args.table.now in
    let begun = starts_of c.args.booked.row in
    let whole = after_starts begun (carry_on N v c.args.first c.args.booked.arrival (drop (length begun) hops) A) in
    let ss = starts_of c.loop-hop.booked.row in
    let previous = c.loop-hop.booked.arrival in
    let T = g.T.Askable.meaning c.loop-hop.table in
    let at : slice_get hops (length ss) ≡ Some c.in-Some.hop = hop_there hops c.count.result (length ss) c.in-Some.hop c.in-Some.ensures c.count.ensures in
    let b = c.in_ok-leg.leg in
    let answer : Ok b ≡ seek_leg N v c.in-Some.hop (max c.args.first (previous - transfer_length N v c.in-Some.hop.link)) T =
    c.in_ok-leg.ensures.answer ∙ asked v c.in-Some.hop previous T c.network-network.ensures c.from.ensures
    in
    let few = few_hops N (g.R.Routes.route r) (g.met.R.Routes.keeps r) c.args.transfer.from c.args.transfer.to in
    let room : length ss < 15 = omega (arith, hop_within hops (length ss) c.in-Some.hop at, few) in
    let pushed : starts_of c.push.new.self ≡ ss ++ b.start ∷ [] = start_written ss (starts_of c.push.new.self) b.start _ c.push.ensures.row c.push.ensures.fits room in
    moves_on N v c.args.first hops whole A (length begun) (ss ++ b.start ∷ []) (end b) (with_booking T b) _ _ _ pushed c.end.ensures.value c.in_ok-leg.ensures.after
    (next N v c.args.first hops whole A (length begun) ss previous T c.loop-hop.invariant c.in-Some.hop at b answer)

pub loop-hop-smaller : goal.loop-hop-smaller
loop-hop-smaller g c =
    let r = c.args.routes.now in
    let N = net_of (g.R.Routes.over r) in
    let hops = hops_of (g.R.Routes.route r c.args.transfer.from c.args.transfer.to) in
    let ss = starts_of c.loop-hop.booked.row in
    let at : slice_get hops (length ss) ≡ Some c.in-Some.hop = hop_there hops c.count.result (length ss) c.in-Some.hop c.in-Some.ensures c.count.ensures in
    let few = few_hops N (g.R.Routes.route r) (g.met.R.Routes.keeps r) c.args.transfer.from c.args.transfer.to in
    let room : length ss < 15 = omega (arith, hop_within hops (length ss) c.in-Some.hop at, few) in
    let pushed : starts_of c.push.new.self ≡ ss ++ c.in_ok-leg.leg.start ∷ [] = start_written ss (starts_of c.push.new.self) c.in_ok-leg.leg.start _ c.push.ensures.row c.push.ensures.fits room in
    omega (arith, hop_within hops (length ss) c.in-Some.hop at, ap length pushed, length_push ss c.in_ok-leg.leg.start)

pub returns-clause-answer : goal.returns-clause-answer
returns-clause-answer g c =
    let r = c.args.routes.now in
    let N = net_of (g.R.Routes.over r) in
    let hops = hops_of (g.R.Routes.route r c.args.transfer.from c.args.transfer.to) in
    let v = c.args.transfer.volume in
    let A = g.T.Askable.meaning c.args.table.now in
    let begun = starts_of c.args.booked.row in
    let whole = after_starts begun (carry_on N v c.args.first c.args.booked.arrival (drop (length begun) hops) A) in
    let ss = starts_of c.loop-hop.booked.row in
    let previous = c.loop-hop.booked.arrival in
    let T = g.T.Askable.meaning c.loop-hop.table in
    let at : slice_get hops (length ss) ≡ None = no_hop_there hops c.count.result (length ss) c.in_default.ensures c.count.ensures in
    done N v c.args.first hops whole A (length begun) ss previous T c.loop-hop.invariant at
