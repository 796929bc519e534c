-- How the answer of a call is written.
use Rattle.std.specs.Prelude.{ℕ, List, [], ◌∷◌, codes, decimal}
use Rattle.std.specs.List.{concat}
use Rattle.model.specs.Refusals.{refusal_text}
use Rattle.certificate.specs.declared.call.Answer.{Answer}
use Rattle.certificate.specs.declared.call.Answer.TheVariants.{Finish, Kept, Task, Length, Refused, NotAllowed}

abbrev pub answer_text : Answer → List ℕ
answer_text (Finish finish) = concat (codes "finish " ∷ decimal finish ∷ [])
answer_text Kept = codes "kept"
answer_text (Task task) = concat (codes "task " ∷ decimal task ∷ [])
answer_text (Length length) = concat (codes "length " ∷ decimal length ∷ [])
answer_text (Refused refusal) = concat (codes "refused " ∷ refusal_text refusal ∷ [])
answer_text NotAllowed = codes "not allowed"
