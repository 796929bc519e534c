use Rattle.certificate.proofs.Promises.{every_list_of_calls}
use Rattle.certificate.proofs.laws.lists_of_calls_are_certified.Goals as goal

pub returns : goal.returns
returns c = every_list_of_calls
