use Rattle.std.proofs.Common.{◌≡◌, ◌+◌, ◌==◌, ◌<◌, ℕ, List, [], ◌∷◌, Some, None, Option, refl, sym, ap, subst, ◌∙◌}
use Rattle.std.specs.List.{flat_map}
use Rattle.std.specs.Option.{option_map_or}
use Rattle.std.proofs.lemmas.Bool.{eq-eqb}
use Rattle.model.specs.Data.{job_of, net_of}
use Rattle.model.specs.Plans.{task_booking}
use Rattle.model.specs.declared.booking.Booking.{Booking}
use Rattle.model.specs.declared.job.Edge.{Edge}
use Rattle.model.specs.declared.plan.Placement.{Placement}
use Rattle.routes.specs.Legs.{legs}
use Rattle.routes.specs.RoutedPlans.{on}
use Rattle.planner.specs.Edges.{incoming}
use Rattle.planner.specs.OrderParts.{place_after}
use Rattle.planner.proofs.Chaining.{no_edge, rest, LeadsTo, to_go, closer, from_begin, first_sought, next_sought}
use Rattle.planner.proofs.OrderBookings.{still_missing, chosen_stands, chosen_missing, then_last}
use Rattle.planner.proofs.order.bookings.after_step.Goals as goal

none_from : (o : Option ℕ) → ((x : ℕ) → o ≡ Some x → ⊥) → o ≡ None
none_from None other = refl
none_from (Some x) other = absurd (other x refl)

pub loop-next-init : goal.loop-next-init
loop-next-init g c =
    let J = job_of c.args.routed.now.job.now in
    let bs = (g.T.Askable.meaning c.args.table.now).bookings in
    let s = first_sought J.edges _ _ c.requires c.args.task c.first-next.result c.first-next.ensures in
    record {
      so_far = sym (ap (λ es. place_after bs c.args.place (flat_map (λ (i, e). on c.args.routed.now legs i) es)) s.same);
      leads = s.leads;
    }

pub loop-next-preserved : goal.loop-next-preserved
loop-next-preserved g c =
    let es = (job_of c.args.routed.now.job.now).edges in
    let t = c.args.task in
    let i = c.in-Some.i in
    let bs = (g.T.Askable.meaning c.args.table.now).bookings in
    let p = λ (x : ℕ × Edge). x.1.to == t in
    let f = λ (x : ℕ × Edge). on c.args.routed.now legs x.0 in
    let here : LeadsTo es t 0 (Some i) = subst (LeadsTo es t 0) c.in-Some.is c.loop-next.invariant.leads in
    let s = next_sought es _ _ c.requires t i c.next-next.result here.1 here.2 c.next-next.ensures in
    let so_far = subst (λ o. place_after bs c.loop-next.place (flat_map f (rest es t o)) ≡ place_after bs c.args.place (flat_map f (incoming (job_of c.args.routed.now.job.now) t))) c.in-Some.is c.loop-next.invariant.so_far in
    record {
      so_far =
          sym (ap (λ xs. place_after bs c.in_ok-place.place (flat_map f xs)) s.same)
          ∙ chosen_stands p f bs es no_edge i here.1 (eq-eqb _ _ here.2) c.loop-next.place c.in_ok-place.place _ c.in_ok-place.ensures so_far;
      leads = from_begin es t (i + 1) c.next-next.result s.leads;
    }

pub loop-next-smaller : goal.loop-next-smaller
loop-next-smaller g c =
    let es = (job_of c.args.routed.now.job.now).edges in
    let t = c.args.task in
    let i = c.in-Some.i in
    let here : LeadsTo es t 0 (Some i) = subst (LeadsTo es t 0) c.in-Some.is c.loop-next.invariant.leads in
    let s = next_sought es _ _ c.requires t i c.next-next.result here.1 here.2 c.next-next.ensures in
    subst (λ o. to_go es c.next-next.result < to_go es o) (sym c.in-Some.is) (closer es t i c.next-next.result here.1 s.leads)

pub returns-in_err-place : goal.returns-in_err-place
returns-in_err-place g c =
    let J = job_of c.args.routed.now.job.now in
    let t = c.args.task in
    let i = c.in-Some.i in
    let bs = (g.T.Askable.meaning c.args.table.now).bookings in
    let p = λ (x : ℕ × Edge). x.1.to == t in
    let f = λ (x : ℕ × Edge). on c.args.routed.now legs x.0 in
    let here : LeadsTo J.edges t 0 (Some i) = subst (LeadsTo J.edges t 0) c.in-Some.is c.loop-next.invariant.leads in
    let so_far = subst (λ o. place_after bs c.loop-next.place (flat_map f (rest J.edges t o)) ≡ place_after bs c.args.place (flat_map f (incoming J t))) c.in-Some.is c.loop-next.invariant.so_far in
    c.from_residual.ensures
    ∙ still_missing bs (flat_map f (incoming J t)) _ c.args.place
    (chosen_missing p f bs J.edges no_edge i here.1 (eq-eqb _ _ here.2) c.loop-next.place _ c.in_err-place.ensures so_far)

pub returns : goal.returns
returns g c =
    let r = c.args.routed.now in
    let J = job_of r.job.now in
    let t = c.args.task in
    let k = c.loop-next.place in
    let bs = (g.T.Askable.meaning c.args.table.now).bookings in
    let f = λ (x : ℕ × Edge). on r legs x.0 in
    let own : Option Placement → List Booking = λ row. option_map_or (λ q. task_booking J (net_of (g.R.Routes.over r.routes.now)) t q ∷ []) row [] in
    let stood : Some k ≡ place_after bs c.args.place (flat_map f (incoming J t)) =
    subst (λ o. place_after bs k (flat_map f (rest J.edges t o)) ≡ place_after bs c.args.place (flat_map f (incoming J t))) (none_from c.loop-next.next c.in_default.not-Some) c.loop-next.invariant.so_far
    in
    c.after.ensures
    ∙ ap (λ b. place_after bs k (b ∷ [])) (c.task_booking.ensures ∙ ap (λ n. task_booking J (net_of n) t c.in-Some-task.row) c.network-network.ensures)
    ∙ ap (λ row. place_after bs k (own row)) c.in-Some-task.ensures
    ∙ sym (then_last bs k c.args.place (flat_map f (incoming J t)) (own _) stood)

pub returns-in_default-task : goal.returns-in_default-task
returns-in_default-task g c =
    let r = c.args.routed.now in
    let J = job_of r.job.now in
    let t = c.args.task in
    let k = c.loop-next.place in
    let bs = (g.T.Askable.meaning c.args.table.now).bookings in
    let f = λ (x : ℕ × Edge). on r legs x.0 in
    let own : Option Placement → List Booking = λ row. option_map_or (λ q. task_booking J (net_of (g.R.Routes.over r.routes.now)) t q ∷ []) row [] in
    let stood : Some k ≡ place_after bs c.args.place (flat_map f (incoming J t)) =
    subst (λ o. place_after bs k (flat_map f (rest J.edges t o)) ≡ place_after bs c.args.place (flat_map f (incoming J t))) (none_from c.loop-next.next c.in_default.not-Some) c.loop-next.invariant.so_far
    in
    ap (λ row. place_after bs k (own row)) c.in_default-task.ensures
    ∙ sym (then_last bs k c.args.place (flat_map f (incoming J t)) (own _) stood)
