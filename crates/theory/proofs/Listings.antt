-- "A later listing replaces an earlier one, even when the later is closed": the last arc listed from one junction to another is the one in
-- force, unless it is CLOSED. So a search for the road may stop at the last listing. Assumes nothing.
use Prim.Native.Nat.{ℕ, ◌<◌}
use mathlib.Core.Path.{◌≡◌, ap, ◌∙◌}
use mathlib.Core.Logic.{◌≢◌}
use lib.Dec.{T, eqb}
use borrow.Author.Tests.{eqb-true, eqb-false}
use Rattle.rules.specs.Costs.{closed}
use Rattle.rules.specs.Net.{Net, size, arcs, arc_cost, junction, runs, road_arc, road, two_positions, road_between}
use Rattle.theory.proofs.Words.{either, split, cond_true, neither_below}
use Rattle.theory.proofs.Joined.{two_i}
use Rattle.theory.proofs.Roads.{OpenArc, runs_i, runs_e, force_open, force_last, force_i, road_arc_lem, arc_is}

-- arc i runs from u to v, and no later arc does
pub record LastListed (N : Net) (u v i : ℕ) : Type 0 where
  pub listed : i < arcs N
  pub goes : T (runs N u v i)
  pub none_later : (j : ℕ) → i < j → j < arcs N → T (runs N u v j) → ⊥

module _ (N : Net) (u v : ℕ) where
  -- where no arc is in force there is no road
  road_none : ((i : ℕ) → OpenArc N u v i → ⊥) → road N u v ≡ closed
  road_none n =
      either (split (eqb (road N u v) closed))
      (λ e. eqb-true (road N u v) closed e)
      (λ e. absurd (n (road_arc N u v) (road_arc_lem N u v (eqb-false (road N u v) closed e)).0))

  -- where none is listed there is no road
  pub none_listed : ((j : ℕ) → j < arcs N → T (runs N u v j) → ⊥) → road N u v ≡ closed
  none_listed n = road_none (λ i o. n i o.listed (runs_i N u v i o.tail_is o.head_is))

  module _ (i : ℕ) (last : LastListed N u v i) where
    -- where the last listing is CLOSED there is no road
    pub last_closed : arc_cost N i ≡ closed → road N u v ≡ closed
    last_closed c =
        road_none (λ j o.
        let t = runs_i N u v j o.tail_is o.head_is in
        let same : j ≡ i =
        neither_below j i (λ h. force_last N u v j i o.in_force_lem t h last.listed last.goes) (λ h. last.none_later j h o.listed t) in
        force_open N j o.in_force_lem (ap (arc_cost N) same ∙ c))

    -- otherwise it is the arc in force
    pub last_open : u ≢ v → arc_cost N i ≢ closed → (road_arc N u v ≡ i) × (road N u v ≡ arc_cost N i)
    last_open apart c =
        let (e, d) = runs_e N u v i last.goes in
        arc_is N u v i
        (record { listed = last.listed; in_force_lem = force_i N u v i apart last.goes c last.none_later; tail_is = e; head_is = d })

-- between two positions of the net the road is that between their junctions
pub between_road : (N : Net) (a b : ℕ) → a < size N → b < size N → a ≢ b → road_between N a b ≡ road N (junction N a) (junction N b)
unfolding road_between
between_road N a b h g n = cond_true (two_positions N a b) (road N (junction N a) (junction N b)) closed (two_i N a b h g n)
