-- The lines of the edges into a task, from those of all edges.
use Rattle.std.proofs.Common.{◌≡◌, ℕ, ◌+◌, ◌<◌, ◌≤◌, Bool, true, false, if◌then◌else◌, ◌==◌, List, [], ◌∷◌, ◌++◌, drop, length, get_or, Option, refl, sym, ap, subst, ◌∙◌}
use Rattle.std.specs.List.{slice_get, enumerate_from, flat_map, filter}
use Rattle.std.specs.Option.{option_map_or}
use Rattle.std.specs.Io.KnownBytes.{Appends}
use Rattle.std.proofs.lemmas.List.FromFn.{length-enumerate_from}
use Rattle.std.proofs.lemmas.Option.{slice_get-get_or}
use Rattle.model.specs.Data.{JobData}
use Rattle.model.specs.declared.job.Edge.{Edge}
use Rattle.routes.specs.Shown.Reading.{slice_get_enumerate}
use Rattle.planner.specs.Edges.{incoming}
use Rattle.session.proofs.Lists.{Left, begun, item_written, items_written}

-- those of one edge
abbrev pub lines_into : (ℕ → List ℕ) → ℕ → ℕ × Edge → List ℕ
lines_into f t (i, e) = if e.to == t then f i else []

-- what is kept has its lines, and the rest has none
filtered : {A : Type 0} (p : A → Bool) (f : A → List ℕ) (xs : List A) → flat_map (λ x. if p x then f x else []) xs ≡ flat_map f (filter p xs)
filtered p f [] = refl
filtered p f (x ∷ xs) = step (p x) (filtered p f xs)
  where
    step : (b : Bool) → flat_map (λ y. if p y then f y else []) xs ≡ flat_map f (filter p xs) → (if b then f x else []) ++ flat_map (λ y. if p y then f y else []) xs ≡ flat_map f (if b then x ∷ filter p xs else filter p xs)
    step true rest = ap (λ bs. f x ++ bs) rest
    step false rest = rest

module _ (J : JobData) (f : ℕ → List ℕ) (t : ℕ) (old : Option (List ℕ)) where
  pub edges_begun : Left old old (flat_map (lines_into f t) (enumerate_from 0 J.edges)) (flat_map (λ (i, e). f i) (incoming J t))
  edges_begun =
      subst (λ whole. Left old old (flat_map (lines_into f t) (enumerate_from 0 J.edges)) whole)
      (filtered (λ (i, e). e.to == t) (λ (i, e). f i) (enumerate_from 0 J.edges))
      (begun old (flat_map (lines_into f t) (enumerate_from 0 J.edges)))

  -- es are the edges
  pub edge_written : (whole : List ℕ) (now next : Option (List ℕ)) (es : List Edge) (i : ℕ) (d : Edge) → es ≡ J.edges → i < length es → Left old now (flat_map (lines_into f t) (drop i (enumerate_from 0 J.edges))) whole → Appends now next (lines_into f t (i, get_or es i d)) → Left old next (flat_map (lines_into f t) (drop (i + 1) (enumerate_from 0 J.edges))) whole
  edge_written whole now next es i d is l so_far p =
      let at = slice_get_enumerate es i (get_or es i d) (slice_get-get_or es i d l) in
      item_written (lines_into f t) old whole now next (enumerate_from 0 J.edges) i so_far
      (subst (λ o. Appends now next (option_map_or (lines_into f t) o [])) (sym at ∙ ap (λ xs. slice_get (enumerate_from 0 xs) i) is) p)

  pub edges_written : (whole : List ℕ) (now : Option (List ℕ)) (es : List Edge) (i : ℕ) → es ≡ J.edges → length es ≤ i → Left old now (flat_map (lines_into f t) (drop i (enumerate_from 0 J.edges))) whole → Appends old now whole
  edges_written whole now es i is l so_far =
      let past : length (enumerate_from 0 J.edges) ≤ i = subst (λ n. n ≤ i) (sym (length-enumerate_from 0 J.edges ∙ ap length (sym is))) l in
      items_written (lines_into f t) old whole now (enumerate_from 0 J.edges) i past so_far
