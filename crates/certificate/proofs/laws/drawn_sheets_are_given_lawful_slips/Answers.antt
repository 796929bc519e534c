use Rattle.certificate.proofs.HandedIn.{every_sheet_handed_in}
use Rattle.certificate.proofs.laws.drawn_sheets_are_given_lawful_slips.Goals as goal

pub returns : goal.returns
returns c = every_sheet_handed_in
