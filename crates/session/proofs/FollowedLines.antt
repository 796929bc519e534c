-- What is written of one line more.
use Rattle.std.proofs.Common.{◌≡◌, ℕ, List, ◌∷◌, ◌++◌, Some, None, Ok, Option, Result, sym, ap, subst, ◌∙◌}
use Rattle.std.specs.Option.{option_map_or}
use Rattle.model.specs.Data.{JobData, NetData}
use Rattle.routes.specs.Legs.{Ways}
use Rattle.script.specs.Data.{LineData, line_data}
use Rattle.script.specs.declared.error.LineError.{LineError}
use Rattle.script.specs.declared.line.Line.{Line}
use Rattle.session.specs.Drawings.{Progress, progress_after, line_text, followed}
use Rattle.session.specs.Printing.{not_understood_line}
use Rattle.session.specs.Statements.{Statement, put_back, unread, to_come, IsFirst, GivesFirst}
use Rattle.session.specs.Stops.{Prints}
use Rattle.session.specs.declared.reader.Reader.{Reader}
use Rattle.session.proofs.Lists.{Left, part_written}

-- a line that was carried out has a text, and it is written
text_written : (old now next : Option (List ℕ)) (o : Option (List ℕ)) (rest other whole : List ℕ) → Left old now (option_map_or (λ text. text ++ rest) o other) whole → Prints (Ok tt) now next o → Left old next rest whole
text_written old now next None rest other whole so_far p = absurd p
text_written old now next (Some text) rest other whole so_far p = part_written old now next text rest whole so_far p

-- the line that a reader gives is the first of those that came, and the others are to come
pub given_first : (old new : Reader) (said : Result Line LineError) (line : Line) (bytes : List ℕ) → GivesFirst old (Some said) new → said ≡ Ok line → bytes ≡ new.bytes.now → to_come old ≡ record { number = new.number; bytes = bytes; said = Some (line_data line) } ∷ to_come new
given_first old new said line bytes gives is these =
    let first : IsFirst (Some (Ok line)) new.number new.bytes.now (to_come old) (unread new) = subst (λ r. IsFirst (Some r) new.number new.bytes.now (to_come old) (unread new)) is gives.0 in
    first ∙ ap (λ bs. record { number = new.number; bytes = bs; said = Some (line_data line) } ∷ unread new) (sym these)
    ∙ ap (λ back. record { number = new.number; bytes = bytes; said = Some (line_data line) } ∷ put_back new.number new.bytes.now back (unread new)) (sym gives.1)

module _ (J : JobData) (N : NetData) (ρ : Ways) where
  pub line_followed : (old now next : Option (List ℕ)) (G H : Progress) (n : ℕ) (bytes : List ℕ) (d : LineData) (before later : List Statement) (whole : List ℕ)
      → before ≡ record { number = n; bytes = bytes; said = Some d } ∷ later
      → Prints (Ok tt) now next (line_text J N ρ G bytes d)
      → H ≡ progress_after J N ρ G d
      → Left old now (followed J N ρ G before) whole
      → Left old next (followed J N ρ H later) whole
  line_followed old now next G H n bytes d before later whole is p left so_far =
      subst (λ K. Left old next (followed J N ρ K later) whole) (sym left)
      (text_written old now next (line_text J N ρ G bytes d) (followed J N ρ (progress_after J N ρ G d) later) (not_understood_line n) whole
      (subst (λ ss. Left old now (followed J N ρ G ss) whole) is so_far) p)
