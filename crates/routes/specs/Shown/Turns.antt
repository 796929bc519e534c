-- Proofs that the search settles stations in order, until none is left; no definition to read stands here.
use Rattle.std.specs.Prelude.{◌≡◌, ℕ, zero, suc, ◌<◌, ◌⊎◌, Bool, List, [], ◌∷◌, ◌++◌, length, take, Some, None, Option, refl}
use Rattle.std.specs.Option.{option_to_list}
use Rattle.std.specs.List.{slice_get}
use Rattle.std.proofs.Common.{sym, ap, ◌∙◌, subst, inl, inr, ⊎_elim, arith}
use Rattle.std.proofs.lemmas.List.{append-nil, take-append-le, take_at, length_push}
use Rattle.std.proofs.lemmas.Option.{none-some, slice_get_within}
use Rattle.model.specs.Data.{NetData, station_count}
use Rattle.model.specs.declared.network.Link.{Link}
use Rattle.queue.specs.Orders.{IsStrictTotalOrder}
use Rattle.routes.specs.Best.{LastHop, NextBest, InOrder}
use Rattle.routes.specs.Shown.Reading.{slice_get_before_push, push_cases}
use Rattle.routes.specs.Search.{shortest, ways_on, settled_after, search_order, source}
use Rattle.routes.specs.Shown.Settling.{Settling, no_more}
use Rattle.routes.specs.Shown.Shortest.{shortest_none}
use Rattle.routes.specs.Shown.Ways.{next_best, last_hop_of, none_left}
use Rattle.routes.specs.declared.settled.Settled.{Settled}

module _ {X : Type 0} (before : X → X → Bool) (longer : X → Link → X) (N : NetData) (start : X) (s : ℕ) (order : IsStrictTotalOrder before) where
  -- what holds of the stations before a and of a, where us are in order and o is the next
  pushed : (P : List (Settled X) → Settled X → Type 0) (us : List (Settled X)) (o : Settled X) → P us o
      → ((i : ℕ) (a : Settled X) → slice_get us (suc i) ≡ Some a → P (take (suc i) us) a)
      → (i : ℕ) (a : Settled X) → slice_get (us ++ o ∷ []) (suc i) ≡ Some a → P (take (suc i) (us ++ o ∷ [])) a
  pushed P us o new old i a at =
      ⊎_elim
      (λ (h : (suc i < length us) × (slice_get us (suc i) ≡ Some a)).
      subst (λ vs. P vs a) (sym (take-append-le (suc i) us (o ∷ []) (omega (arith, h.0)))) (old i a h.1))
      (λ (h : (suc i ≡ length us) × (o ≡ a)).
      subst (P (take (suc i) (us ++ o ∷ []))) h.1 (subst (λ vs. P vs o) (sym (take_at us (o ∷ []) (suc i) (sym h.0))) new))
      (push_cases us o (suc i) a at)

  one_more : (us : List (Settled X)) (v : Option (Settled X)) → shortest before (ways_on before longer N us) ≡ v → Settling before longer N start s us → Settling before longer N start s (us ++ option_to_list v)
  one_more us None e p = subst (Settling before longer N start s) (sym (append-nil us)) p
  one_more us (Some o) e p = record {
    begins = slice_get_before_push us o 0 (slice_get_within us 0 (source start s) p.begins) ∙ p.begins;
    next = pushed (NextBest before longer N) us o (next_best before longer N order us o e) p.next;
    reached = pushed (LastHop before longer N) us o (last_hop_of before longer N order us o e) p.reached;
  }

  pub settling : (k : ℕ) → Settling before longer N start s (settled_after before longer N start s k)
  unfolding settled_after
  settling zero = record {
    begins = refl;
    next = λ i a at. absurd (none-some a at);
    reached = λ i a at. absurd (none-some a at);
  }
  settling (suc k) = one_more _ _ refl (settling k)

  -- each turn settled one station more, or there was none left
  abbrev Turned : ℕ → List (Settled X) → Type 0
  Turned k us = (length us ≡ suc k) ⊎ (ways_on before longer N us ≡ [])

  turn : (k : ℕ) (us : List (Settled X)) (v : Option (Settled X)) → shortest before (ways_on before longer N us) ≡ v → Turned k us → Turned (suc k) (us ++ option_to_list v)
  turn k us None e before_it = inr (ap (ways_on before longer N) (append-nil us) ∙ shortest_none before (ways_on before longer N us) e)
  turn k us (Some o) e before_it =
      ⊎_elim (λ long. inl (omega (arith, length_push us o, long)))
      (λ none. absurd (none-some o (sym (ap (shortest before) none) ∙ e))) before_it

  turned : (k : ℕ) → Turned k (settled_after before longer N start s k)
  unfolding settled_after
  turned zero = inl refl
  turned (suc k) = turn k _ _ refl (turned k)

  pub search_ends : s < station_count N → ways_on before longer N (search_order before longer N start s) ≡ []
  search_ends known =
      ⊎_elim
      (λ long. absurd (omega (arith, long, no_more before longer N start s (search_order before longer N start s) (settling (station_count N)) known)))
      (λ none. none) (turned (station_count N))

  pub in_order : s < station_count N → InOrder before longer N start s (search_order before longer N start s)
  in_order known =
      let p = settling (station_count N) in
      record { begins = p.begins; next = p.next; reached = p.reached; complete = none_left before longer N (search_order before longer N start s) (search_ends known) }
