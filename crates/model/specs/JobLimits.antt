-- The limits of a job: why lists of works and edges make none. Tasks and edges are numbered from 0 by their places.
-- This file does not name `Job`, whose ghost field cites it.
use Rattle.std.specs.Prelude.{◌≡◌, ℕ, ◌<◌, ◌≤◌, Bool, false, if◌then◌else◌, not, ◌&&◌, ◌||◌, List, [], ◌∷◌, length, take, Some, None, Option, ◌==◌, ◌≢◌, nat_le, nat_lt}
use Rattle.std.specs.List.{slice_get}
use Rattle.model.specs.Lengths.{within, amount_ok}
use Rattle.model.specs.Refusals.{or_else, first_refusal}
use Rattle.model.specs.declared.job.Edge.{Edge}
use Rattle.model.specs.declared.refusal.Refusal.{Refusal}
use Rattle.model.specs.declared.refusal.Refusal.TheVariants.{ListLength, ValueLimits, BadEdge}

abbrev pub task_refusal : ℕ → ℕ → Option Refusal
task_refusal t work = if amount_ok work then None else Some (ValueLimits t)

-- two edges join the same pair of tasks
abbrev pub same_pair : Edge → Edge → Bool
same_pair e f = e.from == f.from && e.to == f.to

-- an edge of the list joins the same pair
abbrev pub joins_pair : Edge → List Edge → Bool
joins_pair e [] = false
joins_pair e (f ∷ fs) = same_pair e f || joins_pair e fs

-- the edge goes from a lower task to a higher one of the n tasks
abbrev pub rises : ℕ → Edge → Bool
rises n e = nat_lt e.from e.to && nat_lt e.to n

-- what is wrong with edge i among n tasks and these edges
abbrev pub edge_refusal : ℕ → List Edge → ℕ → Edge → Option Refusal
edge_refusal n edges i e =
    if amount_ok e.volume
    then (if rises n e && not (joins_pair e (take i edges)) then None else Some (BadEdge i))
    else Some (ValueLimits i)

-- both lengths first, then each task, then each edge
abbrev pub job_refusal : List ℕ → List Edge → Option Refusal
job_refusal works edges =
    if within 1 128 (length works)
    then (if nat_le (length edges) 224
    then or_else (first_refusal task_refusal 0 works) (first_refusal (edge_refusal (length works) edges) 0 edges)
    else Some (ListLength (length edges)))
    else Some (ListLength (length works))

-- what a job is, in other words: lists make one exactly if all of this holds
pub record JobLimits (works : List ℕ) (edges : List Edge) : Type 0 where
  pub some_task : 1 ≤ length works
  pub few_tasks : length works ≤ 128
  pub few_edges : length edges ≤ 224
  pub each_work : (t w : ℕ) → slice_get works t ≡ Some w → (1 ≤ w) × (w ≤ 1000000)
  pub each_volume : (i : ℕ) (e : Edge) → slice_get edges i ≡ Some e → (1 ≤ e.volume) × (e.volume ≤ 1000000)
  pub each_rises : (i : ℕ) (e : Edge) → slice_get edges i ≡ Some e → (e.from < e.to) × (e.to < length works)
  pub pairs_differ : (i j : ℕ) (e f : Edge) → i < j → slice_get edges i ≡ Some e → slice_get edges j ≡ Some f → e.from ≡ f.from → e.to ≢ f.to
