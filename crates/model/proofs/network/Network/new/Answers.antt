use Rattle.std.proofs.Common.{◌≡◌, vec_items, refl, rules}
use Rattle.model.specs.NetworkLimits.{network_refusal}
use Rattle.model.specs.Refusals.{refusal_of}
use Rattle.model.proofs.Firsts.{unrefused}
use Rattle.model.proofs.Networks.{network_limits, network_passes}
use Rattle.model.proofs.network.Network.new.Goals as goal

pub returns-in_err-check_network-clause-limits : goal.returns-in_err-check_network-clause-limits
returns-in_err-check_network-clause-limits c =
    let is : refusal_of c.from_residual.result ≡ network_refusal (vec_items c.args.stations) (vec_items c.args.links) = search rules in
    let passed = unrefused c.from_residual.result _ is in
    (λ e. network_limits _ _ (passed.0 e), λ l. passed.1 (network_passes _ _ l))

pub returns-clause-limits : goal.returns-clause-limits
returns-clause-limits c =
    let is : refusal_of c.check_network.result ≡ network_refusal (vec_items c.args.stations) (vec_items c.args.links) = search rules in
    let passed = unrefused c.check_network.result _ is in
    (λ e. network_limits _ _ (passed.0 (search rules)), λ l. refl)
