-- A table is refused nothing exactly if every pair of stations has a row that keeps the laws; a refusal names the first other pair.
use Rattle.std.specs.Prelude.{◌≡◌, ℕ, ◌+◌, ◌*◌, ◌<◌, ◌≤◌, true, false, ◌≢◌, List, [], ◌∷◌, length, is_some, Some, None, Option, ◌==◌, refl}
use Rattle.std.proofs.Common.{sym, ap, subst, ◌∙◌, ⊎_elim, arith}
use Rattle.std.proofs.lemmas.List.{nil_from_length}
use Rattle.std.proofs.lemmas.Bool.{true≢false, cases_Bool, cond-true, cond-false, and_from, and_left, and_right, not-true, not_from_false, eqb-true, eqb-false, eq-eqb, ne_eqb, lt-ltb, le-ltb}
use Rattle.model.specs.Data.{NetData, station_count}
use Rattle.model.specs.declared.refusal.Refusal.{Refusal}
use Rattle.model.specs.declared.refusal.Refusal.TheVariants.{BadRoute}
use Rattle.model.proofs.Firsts.{some≢none, none_from}
use Rattle.model.proofs.Lowests.{lowest_none, lowest_some, lowest_all}
use Rattle.routes.specs.Laws.{SoundRoute, PairLaws, RouteLaws}
use Rattle.routes.specs.Tables.{row_at, keeps_law, is_kept, row_refusal, origin_refusal, written_refusal, route_in, written_route}
use Rattle.routes.specs.Lawful.{LawfulRow, LawfulTable, FirstBroken}
use Rattle.routes.specs.declared.hop.Hop.{Hop}
use Rattle.routes.specs.Shown.Walked.{route_sound, sound_route, stays}

-- the law of one pair

pub law_kept : (N : NetData) (s t : ℕ) (row : Option (List Hop)) → keeps_law N s t row ≡ true → PairLaws N s t row
law_kept N s t None e = record {
  itself = λ same. absurd (eqb-false s t (not-true _ e) same);
  some_hop = λ other is. some≢none (sym is);
  each_route = λ hops is. absurd (some≢none (sym is));
}
law_kept N s t (Some hops) e =
    ⊎_elim
    (λ same.
    let none : hops ≡ [] = nil_from_length hops (eqb-true (length hops) 0 (sym (cond-true (s == t) _ _ same) ∙ e)) in
    record {
      itself = λ _. ap Some none;
      some_hop = λ other. absurd (other (eqb-true s t same));
      each_route = λ hs is. let empty : [] ≡ hs = cc in subst (λ xs. SoundRoute N s t xs) empty (stays N s t (eqb-true s t same));
    })
    (λ other.
    let r = route_sound N s t hops (sym (cond-false (s == t) _ _ other) ∙ e) in
    record {
      itself = λ same. absurd (eqb-false s t other same);
      some_hop = λ _ is. let none : hops ≡ [] = cc in let long : length hops ≡ 0 = ap length none in omega (arith, r.0);
      each_route = λ hs is. let same : hops ≡ hs = cc in subst (λ xs. SoundRoute N s t xs) same r.1;
    })
    (cases_Bool (s == t))

pub kept_law : (N : NetData) (s t : ℕ) (row : Option (List Hop)) → PairLaws N s t row → keeps_law N s t row ≡ true
kept_law N s t None l = not_from_false _ (ne_eqb s t (λ e. some≢none (sym (l.itself e))))
kept_law N s t (Some hops) l =
    ⊎_elim
    (λ same.
    let none : hops ≡ [] = cc (l.itself (eqb-true s t same)) in
    cond-true (s == t) _ _ same ∙ eq-eqb (length hops) 0 (ap length none))
    (λ other.
    cond-false (s == t) _ _ other ∙ sound_route N s t hops (not_empty hops (λ e. l.some_hop (eqb-false s t other) (ap Some e))) (l.each_route hops refl))
    (cases_Bool (s == t))
  where
    not_empty : (hs : List Hop) → hs ≢ [] → 1 ≤ length hs
    not_empty [] ne = absurd (ne refl)
    not_empty (h ∷ hs) ne = omega arith

-- the row of one pair

module _ (N : NetData) (rows : List (Option (List Hop))) where
  lawful : (s t : ℕ) (o : Option (Option (List Hop))) → row_at N rows s t ≡ o → is_kept N s t o ≡ true → LawfulRow N rows s t
  lawful s t None at e = absurd (true≢false (sym e))
  lawful s t (Some row) at e = record { row = row; there = at; kept = law_kept N s t row e }

  row_lawful : (s t : ℕ) → row_refusal N rows s t ≡ None → LawfulRow N rows s t
  row_lawful s t e =
      ⊎_elim
      (λ kept. lawful s t (row_at N rows s t) refl kept)
      (λ broken. absurd (some≢none (sym (cond-false (is_kept N s t (row_at N rows s t)) _ _ broken) ∙ e)))
      (cases_Bool (is_kept N s t (row_at N rows s t)))

  lawful_row : (s t : ℕ) → LawfulRow N rows s t → row_refusal N rows s t ≡ None
  lawful_row s t l =
      cond-true (is_kept N s t (row_at N rows s t)) _ _ (ap (is_kept N s t) l.there ∙ kept_law N s t l.row l.kept)

  row_named : (s t : ℕ) (e : Refusal) → row_refusal N rows s t ≡ Some e → e ≡ BadRoute (16 * s + t)
  row_named s t e is =
      ⊎_elim
      (λ kept. absurd (some≢none (sym is ∙ cond-true (is_kept N s t (row_at N rows s t)) _ _ kept)))
      (λ broken. let same = sym is ∙ cond-false (is_kept N s t (row_at N rows s t)) None (Some (BadRoute (16 * s + t))) broken in cc)
      (cases_Bool (is_kept N s t (row_at N rows s t)))

  -- all rows

  pub table_lawful : written_refusal N rows ≡ None → LawfulTable N rows
  table_lawful none =
      record {
        each_pair = λ s t s_known t_known.
            row_lawful s t (lowest_none (row_refusal N rows s) (station_count N) (lowest_none (origin_refusal N rows) (station_count N) none s s_known) t t_known);
      }

  pub lawful_table : LawfulTable N rows → written_refusal N rows ≡ None
  lawful_table l =
      lowest_all (origin_refusal N rows) (station_count N) (λ s s_known.
      lowest_all (row_refusal N rows s) (station_count N) (λ t t_known. lawful_row s t (l.each_pair s t s_known t_known)))

  pub table_broken : (e : Refusal) → written_refusal N rows ≡ Some e → FirstBroken N rows e
  table_broken e is =
      let origin = lowest_some (origin_refusal N rows) (station_count N) e is in
      let s = origin.0 in
      let goal = lowest_some (row_refusal N rows s) (station_count N) e origin.2 in
      let t = goal.0 in
      record {
        origin = s;
        goal = t;
        origin_known = origin.1;
        goal_known = goal.1;
        named = row_named s t e goal.2;
        broken = λ l. some≢none (sym goal.2 ∙ lawful_row s t l);
        lower_goals = λ b less. row_lawful s b (goal.3 b less);
        lower_origins = λ a b less known. row_lawful a b (lowest_none (row_refusal N rows a) (station_count N) (origin.3 a less) b known);
      }

  -- the routes of a table that is refused nothing

  pub route_is : (s t : ℕ) → s < station_count N → t < station_count N → written_route N rows s t ≡ route_in (row_at N rows s t)
  route_is s t s_known t_known = cond-true _ _ _ (and_from _ _ (lt-ltb s (station_count N) s_known) (lt-ltb t (station_count N) t_known))

  pub written_laws : is_some (written_refusal N rows) ≡ false → RouteLaws N (written_route N rows)
  written_laws checked =
      let table = table_lawful (none_from (written_refusal N rows) checked) in
      record {
        unknown_origin = λ s t past. cond-false _ _ _ (and_left _ _ (le-ltb s (station_count N) past));
        unknown_goal = λ s t past. cond-false _ _ _ (and_right _ _ (le-ltb t (station_count N) past));
        each_pair = λ s t s_known t_known.
            let row = table.each_pair s t s_known t_known in
            subst (PairLaws N s t) (sym (route_is s t s_known t_known ∙ ap route_in row.there)) row.kept;
      }
