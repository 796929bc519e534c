use Rattle.std.proofs.Common.{◌≡◌, false, sym, ◌∙◌, rules, tests}
use Rattle.std.proofs.lemmas.Bool.{not-true}
use Rattle.model.specs.Data.{job_of, net_of}
use Rattle.model.specs.Plans.{plan_of}
use Rattle.model.proofs.Jobs.{of_job}
use Rattle.routes.specs.Legs.{legs}
use Rattle.marker.specs.Markings.{on}
use Rattle.marker.specs.Spans.{overlapped}
use Rattle.marker.specs.Verdicts.{any}
use Rattle.marker.proofs.Overlaps.{none_overlapped}
use Rattle.marker.proofs.marking.Marking.overlaps_none_later.Goals as goal

pub returns : goal.returns
returns g c shown =
    let m = c.args.self.now in
    let i = c.args.i in
    let N = net_of (g.R.Routes.over m.marked.routes.now) in
    let ρ = g.R.Routes.route m.marked.routes.now in
    let answer : c.any_leg.result ≡ any (on m legs i) (overlapped m.spans.now i) = c.any_leg.ensures (overlapped m.spans.now i) (λ x r a. search (rules, tests)) in
    let no : c.any_leg.result ≡ false = not-true _ shown in
    none_overlapped (job_of m.marked.job.now) N ρ (plan_of m.marked.plan.now) (g.met.R.Routes.keeps m.marked.routes.now) (of_job m.marked.job.now).few_edges m.table.now m.told m.spans.now m.spans_told i (sym answer ∙ no)
