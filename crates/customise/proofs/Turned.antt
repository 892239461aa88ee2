-- Turns, one after the other, whatever the roads cost. Assumes nothing.
use Prim.Native.Nat.{ℕ, suc, ◌+◌, ◌≤◌, ◌<◌}
use mathlib.Core.Path.{◌≡◌, sym, ap, ◌∙◌, subst}
use mathlib.Core.List.{List}
use native.Mathlib.Omega.{arith}
use lib.ListN.{length, get_or, set, replicate, length-replicate}
use Rattle.rules.specs.Graph.{Graph}
use Rattle.rules.specs.Hierarchy.{EdgeCosts}
use Rattle.theory.specs.Rows.{Rows, Lists, count}
use Rattle.theory.proofs.Rows.{in_heads}
use Rattle.turns.specs.Edges.{Kept}
use Rattle.turns.specs.Waiting.{Turn, SameBelow, Waiting, PassedBelow, queued}
use Rattle.customise.specs.Turns.{Spread, Beside, Crossed, Shut, Risen, Turned}
use Rattle.turns.proofs.Kept.{kept_none, kept_on}
use Rattle.turns.proofs.Stored.{Stored}
use Rattle.turns.proofs.Waiting.{met, waiting_none, waiting_same, waiting_past, waiting_next, passed_none, passed_same, passed_next}
use Rattle.customise.proofs.Holding.{Holding, holding_start, holding_end, holding_more}

-- ---- what is kept

-- past the edges the triangles of a row with x change nothing
kept_crossed : {G : Graph} {i j : ℕ} {C C' : EdgeCosts} → Rows (count G.first) G → get_or G.heads i 0 < count G.first → Crossed G i j C C' → Kept G C C'
kept_crossed {G} {i} R l X =
    record {
      up_long = X.up_long;
      down_long = X.down_long;
      rest = λ d k h. X.others d k (λ b m g t. omega (arith, (in_heads R (get_or G.heads i 0) k l t.row).0));
    }

-- ---- one turn

-- in the turn of x, from the costs C₀ on
pub record Walking (G : Graph) (x : ℕ) (C₀ : EdgeCosts) (places : List ℕ) (C : EdgeCosts) : Type 0 where
  pub kept : Kept G C₀ C
  pub holds : (road : ℕ → ℕ → ℕ) → Shut road → Risen G road x C₀ → Holding G road x places C

module _ {G : Graph} {x : ℕ} (U : Turn G x) where
  -- no row looked at
  pub walking_start : (C : EdgeCosts) {places : List ℕ} → PassedBelow G x x places → Walking G x C places C
  walking_start C P = record { kept = kept_none G C; holds = λ road shut S. holding_start U shut P S }

  -- each row with x looked at: the turn is over
  pub walking_end : {C₀ C : EdgeCosts} {k : ℕ} {links places : List ℕ} → Waiting G x k links places → k ≡ 0 → Walking G x C₀ places C → Turned G x C₀ (x + 1) C
  walking_end W e K = record { kept = K.kept; risen = λ road shut S. holding_end U shut (waiting_past U W e) (K.holds road shut S) }

  -- the row that is met next
  module _ {k : ℕ} {links places : List ℕ} (W : Waiting G x k links places) (z i : ℕ) (e : k ≡ suc z) (ei : i ≡ get_or places z 0) where
    -- what its offers ask
    pub met_beside : {C : EdgeCosts} → Lists G C → Beside G C z i
    met_beside L = let (zn, zx, ri, ex) = met U W z i e ei in record { lists = L; under = zn; row = ri }

    pub met_spread : {l : List ℕ} → Spread G x l → Spread G (get_or G.heads i 0) l
    met_spread {l} S = subst (λ v. Spread G v l) (sym (met U W z i e ei).3) S

    -- and what they leave
    pub met_walks : {places' : List ℕ} {C₀ C C' : EdgeCosts} → Stored places z (i + 1) places' → Walking G x C₀ places C
        → Crossed G i (get_or G.first (z + 1) 0) C C' → Walking G x C₀ places' C'
    met_walks s K X =
        let (zn, zx, ri, ex) = met U W z i e ei in
        record {
          kept = kept_on K.kept (kept_crossed U.rows (omega (arith, U.under)) X);
          holds = λ road shut S. holding_more U shut zn zx ri ex ei s X (K.holds road shut S);
        }

-- ---- turns, one after the other

-- before the turn of x
pub record Turning (G : Graph) (C₀ : EdgeCosts) (x : ℕ) (C : EdgeCosts) (links places : List ℕ) : Type 0 where
  pub within : x ≤ count G.first
  pub turned : Turned G 0 C₀ x C
  pub waits : Waiting G x (get_or links x 0) links places
  pub passed : PassedBelow G x x places

-- before the first turn
pub turning_start : (G : Graph) (C : EdgeCosts) {links places : List ℕ} → links ≡ replicate 4096 0 → places ≡ replicate 4096 0
    → Turning G C 0 C links places
turning_start G C {links} {places} e f =
    record {
      within = omega arith;
      turned = record { kept = kept_none G C; risen = λ road shut s. s };
      waits = waiting_none links places e (ap length f ∙ length-replicate {A = ℕ} 4096 0);
      passed = passed_none places;
    }

module _ {G : Graph} {C₀ C : EdgeCosts} {x : ℕ} {links places : List ℕ} (S : Turning G C₀ x C links places) where
  -- the row of x is spread out: those that wait are the same
  pub turning_spread : {places' : List ℕ} → Spread G x places' × SameBelow x places places'
      → Spread G x places' × Waiting G x (get_or links x 0) links places' × PassedBelow G x x places'
  turning_spread (P, B) = (P, waiting_same S.waits P.long B, passed_same B S.passed)

  -- one turn more, and the row of x waits for its first place, if it has one
  pub turning_more : {i : ℕ} {C' : EdgeCosts} {links' places' links'' places'' : List ℕ} → Turn G x
      → Turned G x C (x + 1) C' × Waiting G x 0 links' places' × PassedBelow G x (x + 1) places' → i ≡ get_or G.first x 0
      → (links'' ≡ queued G links' x i) × (places'' ≡ set places' x i) → Turning G C₀ (x + 1) C' links'' places''
  turning_more U (t, W, P) e (el, ep) =
      record {
        within = omega (arith, U.under);
        turned = record {
          kept = kept_on S.turned.kept t.kept;
          risen = λ road shut s. t.risen road shut (S.turned.risen road shut s);
        };
        waits = waiting_next U (omega arith) el ep W;
        passed = passed_next U e ep (omega (arith, W.places_long, U.under, U.few)) P;
      }

  -- all turns
  pub turning_all : {n : ℕ} → n ≡ count G.first → n ≤ x → Turned G 0 C₀ n C
  turning_all {n} e l = subst (λ i. Turned G 0 C₀ i C) (let d : x ≡ n = omega (arith, S.within) in d) S.turned
