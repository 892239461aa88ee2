-- The arcs by the positions of their ends, and what those of one position bring into its row. Assumes nothing.
use Rattle.std.specs.Prelude.{ℕ, ◌≤◌, ◌<◌, min, max, ◌≡◌, Bool, cond, List, eqb, ltb, length, get_or, replicate}
use Rattle.theory.specs.Threads.{Threaded, downward}
use Rattle.gather.specs.declared.Ends.{Ends}
use Rattle.gather.specs.declared.ArcThreads.{ArcThreads}
use Rattle.gather.specs.NextMembers.{also}

-- how many arcs there are, and the lower and the higher of the positions of each arc's ends
pub record Arcs : Type 0 where
  pub count : ℕ
  pub low : (i : ℕ) → ℕ
  pub high : (i : ℕ) → ℕ

-- the lower and the higher of the positions of an arc's ends
unfoldable pub low_end : (tails heads rank : List ℕ) (i : ℕ) → ℕ
low_end tails heads rank i = min (get_or rank (get_or tails i 0) 0) (get_or rank (get_or heads i 0) 0)

unfoldable pub high_end : (tails heads rank : List ℕ) (i : ℕ) → ℕ
high_end tails heads rank i = max (get_or rank (get_or tails i 0) 0) (get_or rank (get_or heads i 0) 0)

-- the arcs of a net
abbrev pub arcs_of : (tails heads rank : List ℕ) → Arcs
arcs_of tails heads rank = record { count = length tails; low = low_end tails heads rank; high = high_end tails heads rank }

-- arc i and the positions of its ends can be read
pub record ArcIn (tails heads rank : List ℕ) (i : ℕ) : Type 0 where
  pub tail_there : i < length tails
  pub head_there : i < length heads
  pub tail_ranked : get_or tails i 0 < length rank
  pub head_ranked : get_or heads i 0 < length rank

-- the two positions are those of arc i's ends
abbrev pub EndsOf : (tails heads rank : List ℕ) (i : ℕ) (e : Ends) → Type 0
EndsOf tails heads rank i e = (e.low.0 ≡ low_end tails heads rank i) × (e.high.0 ≡ high_end tails heads rank i)

-- arcs between junctions below n, and the positions of those
pub record ArcLists (tails heads rank : List ℕ) (n : ℕ) : Type 0 where
  pub few : n ≤ 4096
  pub heads_long : length heads ≡ length tails
  pub fit : length tails ≤ 16384
  pub rank_long : length rank ≡ n
  pub ends_in : (i : ℕ) → i < length tails → (get_or tails i 0 < n) × (get_or heads i 0 < n)
  pub positions : (j : ℕ) → j < n → get_or rank j 0 < n

-- no arc is threaded yet
abbrev pub NoArcs : {N : ℕ} (t : ArcThreads N) → Type 0
NoArcs {N} t = (t.at ≡ replicate 4096 0) × (length t.next ≡ N) × (length t.high ≡ N)

-- the arcs are threaded by their lower ends, and their higher ends, all below n, are kept
pub record ThreadsOf {N : ℕ} (R : Arcs) (n : ℕ) (t : ArcThreads N) : Type 0 where
  pub threads : Threaded R.low 4096 N R.count t.at t.next
  pub fit : R.count ≤ N
  pub kept : (i : ℕ) → i < R.count → get_or t.high i 0 ≡ R.high i
  pub below : (i : ℕ) → i < R.count → R.high i < n

-- the set of p with the higher end of arc i put in, if that lies above p: an arc from a junction to itself brings nothing
unfoldable pub with_arc : (R : Arcs) (p i : ℕ) (S : ℕ → Bool) → ℕ → Bool
unfolding also
with_arc R p i S = cond (ltb p (R.high i)) (also S (R.high i)) S

-- with the higher ends of all arcs whose lower end is p
abbrev pub with_arcs : (R : Arcs) (p : ℕ) (S : ℕ → Bool) → ℕ → Bool
with_arcs R p = downward (λ i. eqb (R.low i) p) (with_arc R p) R.count
