use Rattle.std.proofs.Common.{sym, ◌∙◌, rules, tests}
use Rattle.std.proofs.lemmas.Iterator.{YieldsList-from_slice, YieldsList-from_map}
use Rattle.std.proofs.lemmas.Iterator.Adapters.{option_map_id}
use Rattle.std.proofs.lemmas.Iterator.Consumers.{YieldsList-at, YieldsList-from_enumerate, YieldsList-from_filter, min_from_yields_List}
use Rattle.model.specs.Data.{job_of}
use Rattle.planner.proofs.Needed.{least_taken}
use Rattle.planner.proofs.needs.unplaced_predecessor.Goals as goal

pub returns : goal.returns
returns c =
    let edges = (job_of c.args.job.now).edges in
    sym (option_map_id c.min.result)
    ∙ min_from_yields_List _ c.min.result c.min.ensures.ran
    (YieldsList-from_filter _ _
    (YieldsList-at c.filter-2.ensures.source
    (YieldsList-from_map _ _
    (YieldsList-at c.map.ensures.source
    (YieldsList-from_filter _ _
    (YieldsList-at c.filter.ensures.source (YieldsList-from_enumerate (YieldsList-from_slice edges (cc)) (cc)))
    c.filter.ensures.closure (λ x r q k. search (rules, tests))))
    c.map.ensures.closure (λ x r q k. search (rules, tests))))
    c.filter-2.ensures.closure (λ x r q k. search (rules, tests)))
    ∙ least_taken _
