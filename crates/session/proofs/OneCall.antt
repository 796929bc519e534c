-- A list of one call.
use Rattle.std.proofs.Common.{◌≡◌, List, [], ◌∷◌, get_or, Some, None, sym, ap, ◌∙◌}
use Rattle.std.specs.Option.{IsSome, is_some}
use Rattle.model.specs.Data.{JobData, NetData}
use Rattle.routes.specs.Legs.{Ways}
use Rattle.planner.specs.Trials.{Sheet}
use Rattle.certificate.specs.Calls.{Reply, carry_out, after, told}
use Rattle.certificate.specs.declared.call.Answer.{Answer}
use Rattle.certificate.specs.declared.call.Asked.{Asked}
use Rattle.certificate.specs.declared.call.Call.{Call}

module _ (J : JobData) (N : NetData) (ρ : Ways) (X : Sheet) (call : Call) (asked : List Asked) (d : Asked) (is : asked ≡ told J N ρ X (record { call = call; answer = None } ∷ [])) where
  pub one_answer : (get_or asked 0 d).answer ≡ Some (carry_out J N ρ X call).answer
  unfolding told
  one_answer = ap (λ xs. (get_or xs 0 d).answer) is

  pub answered : IsSome (get_or asked 0 d).answer
  answered = ap is_some one_answer

  pub one_reply : (answer : Answer) (sheet : Sheet) → (get_or asked 0 d).answer ≡ Some answer → sheet ≡ after J N ρ X (call ∷ []) → ◌≡◌ {A = Reply} (record { answer = answer; sheet = sheet }) (carry_out J N ρ X call)
  unfolding after
  one_reply answer sheet said left =
      let same : Some answer ≡ Some (carry_out J N ρ X call).answer = sym said ∙ one_answer in
      let this : answer ≡ (carry_out J N ρ X call).answer = cc same in
      ap (λ a. record { answer = a; sheet = sheet }) this ∙ ap (λ Y. record { answer = (carry_out J N ρ X call).answer; sheet = Y }) left
