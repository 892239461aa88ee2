-- The roads of the marked edges of the row of x laid. Assumes nothing.
use Prim.Native.Nat.{ℕ, suc, ◌+◌, ◌-◌, ◌≤◌, ◌<◌}
use mathlib.Core.Path.{◌≡◌, sym, ap, ◌∙◌}
use mathlib.Core.Bool.{Bool, true, false}
use mathlib.Core.Logic.{◌⊎◌, inl, inr, ◌≢◌}
use mathlib.Core.List.{List}
use native.Mathlib.Omega.{arith}
use lib.Dec.{T}
use lib.ListN.{length, get_or, set}
use Rattle.rules.specs.declared.Direction.{Direction}
use Rattle.rules.specs.declared.Direction.TheVariants.{Up, Down}
use Rattle.rules.specs.Net.{Net, road_between}
use Rattle.rules.specs.Graph.{Graph}
use Rattle.rules.specs.Hierarchy.{EdgeCosts, edge_costs, along}
use Rattle.theory.specs.Rows.{InRow, count}
use Rattle.theory.proofs.Words.{either, true_holds, same_or_not}
use Rattle.theory.proofs.Rows.{once, next_row, in_heads}
use Rattle.theory.proofs.EdgesFew.{row_few, edges_few}
use Rattle.rules.specs.Lent.{chosen}
use Rattle.turns.specs.Waiting.{Turn}
use Rattle.turns.proofs.Stored.{stored}
use Rattle.reconsider.specs.Marks.{says}
use Rattle.reconsider.proofs.Said.{says_no}
use Rattle.look.specs.Looking.{Seats}
use Rattle.change.specs.Turning.{LaidRow}
use Rattle.change.proofs.Walked.{row_reads, both_stored}

-- ---- the list

-- the first c of a list are the marked edges of the row of x before place k
pub record Listing (G : Graph) (marks : List Bool) (x k : ℕ) (todo : List ℕ) (c : ℕ) : Type 0 where
  pub long : length todo ≡ 4096
  pub few : c ≤ 4096
  pub room : get_or G.first x 0 + c ≤ k
  pub row : (t : ℕ) → t < c → InRow G x (get_or todo t 0)
  pub past : (t : ℕ) → t < c → get_or todo t 0 < k
  pub marked : (t : ℕ) → t < c → T (says marks (get_or G.heads (get_or todo t 0) 0))
  pub once : (s t : ℕ) → s < t → t < c → get_or todo s 0 < get_or todo t 0
  pub all : (q : ℕ) → InRow G x q → q < k → T (says marks (get_or G.heads q 0)) → (t : ℕ) × (t < c) × (get_or todo t 0 ≡ q)

-- there are few places
pub row_small : {G : Graph} {x k : ℕ} → Turn G x → InRow G x k → k < 8388608
row_small {x = x} {k = k} U r = omega (arith, in_heads U.rows x k U.under r, edges_few U.rows U.few)

module _ {G : Graph} {marks : List Bool} {x : ℕ} where
  -- none yet
  listing_start : {todo : List ℕ} → length todo ≡ 4096 → Listing G marks x (get_or G.first x 0) todo 0
  listing_start e =
      record {
        long = e;
        few = omega arith;
        room = omega arith;
        row = λ t h. absurd (omega arith);
        past = λ t h. absurd (omega arith);
        marked = λ t h. absurd (omega arith);
        once = λ s t l h. absurd (omega arith);
        all = λ q r h. absurd (omega (arith, r.low));
      }

  module _ {k : ℕ} {todo : List ℕ} {c : ℕ} (L : Listing G marks x k todo c) where
    -- an edge that is not marked
    listing_past : ((q : ℕ) → q < k + 1 → T (says marks (get_or G.heads q 0)) → q < k) → Listing G marks x (k + 1) todo c
    listing_past before =
        record {
          long = L.long;
          few = L.few;
          room = omega (arith, L.room);
          row = L.row;
          past = λ t h. omega (arith, L.past t h);
          marked = L.marked;
          once = L.once;
          all = λ q r h m. L.all q r (before q h m) m;
        }

    -- there is a place for one more
    pub listing_room : Turn G x → InRow G x k → c < 4096
    listing_room U r =
        omega (arith, L.room, row_few U.rows x (count G.first - suc x) (omega (arith, U.under)), U.few, next_row G x, r.high)

    -- a marked one is listed
    listing_more : {todo' : List ℕ} → Turn G x → InRow G x k → T (says marks (get_or G.heads k 0))
        → todo' ≡ set todo c k → Listing G marks x (k + 1) todo' (c + 1)
    listing_more {todo'} U k_in m e =
        let room = listing_room U k_in in
        let s = stored todo todo' c k e (omega (arith, L.long)) in
        let last = s.here in
        let which : (t : ℕ) → t < c + 1 → (get_or todo' t 0 ≡ k) ⊎ ((t < c) × (get_or todo' t 0 ≡ get_or todo t 0)) =
        λ t h. either (same_or_not t c)
        (λ d. inl (ap (λ v. get_or todo' v 0) d ∙ last))
        (λ d. inr (omega arith, s.off t d)) in
        record {
          long = s.long ∙ L.long;
          few = omega arith;
          room = omega (arith, L.room);
          row = λ t h. either (which t h) (λ d. rw d k_in) (λ d. rw d.1 (L.row t d.0));
          past = λ t h. either (which t h) (λ d. omega arith) (λ d. omega (arith, d.1, L.past t d.0));
          marked = λ t h. either (which t h) (λ d. rw d m) (λ d. rw d.1 (L.marked t d.0));
          once = λ i t f h.
              let a = s.off i (λ d. omega arith) in
              either (which t h)
              (λ d. omega (arith, a, L.past i (omega arith)))
              (λ d. omega (arith, a, d.1, L.once i t f d.0));
          all = λ q r h n.
              either (same_or_not q k)
              (λ d. (c, omega arith, last ∙ sym d))
              (λ d.
              let (t, f, g) = L.all q r (omega arith) n in
              (t, omega arith, s.off t (λ d. omega arith) ∙ g));
        }

-- ---- the roads

-- the marked edges of the row of x before place k have their roads
pub record Laying (N : Net) (G : Graph) (marks : List Bool) (x k : ℕ) (D : EdgeCosts) (todo : List ℕ) (c : ℕ) : Type 0 where
  pub listing : Listing G marks x k todo c
  pub seats : Seats D
  pub there : (d : Direction) (q : ℕ) → InRow G x q → q < k → T (says marks (get_or G.heads q 0))
      → get_or (chosen d D) (get_or G.heads q 0) 0 ≡ along d (road_between N) x (get_or G.heads q 0)

module _ {N : Net} {G : Graph} {marks : List Bool} {x : ℕ} where
  -- none yet
  pub laying_start : {D : EdgeCosts} {todo : List ℕ} → Seats D → length todo ≡ 4096 → Laying N G marks x (get_or G.first x 0) D todo 0
  laying_start S n = record { listing = listing_start n; seats = S; there = λ d q r h. absurd (omega (arith, r.low)) }

  module _ {k : ℕ} {D : EdgeCosts} {todo : List ℕ} {c : ℕ} (L : Laying N G marks x k D todo c) where
    abbrev y : ℕ
    y = get_or G.heads k 0

    -- an edge that is not marked
    pub laying_past : get_or marks y false ≡ false → Laying N G marks x (k + 1) D todo c
    laying_past m =
        let before : (q : ℕ) → q < k + 1 → T (says marks (get_or G.heads q 0)) → q < k =
        λ q h t. either (same_or_not q k)
        (λ d. absurd (says_no marks (get_or G.heads q 0) (ap (λ v. get_or marks (get_or G.heads v 0) false) d ∙ m) t))
        (λ d. omega arith) in
        record { listing = listing_past L.listing before; seats = L.seats; there = λ d q r h t. L.there d q r (before q h t) t }

    -- a marked one: its roads stand at y
    pub laying_more : {D' : EdgeCosts} {u w : ℕ} {todo' : List ℕ} → Turn G x → InRow G x k → get_or marks y false ≡ true
        → D' ≡ edge_costs (set D.up y u) (set D.down y w) → u ≡ road_between N x y → w ≡ road_between N y x → todo' ≡ set todo c k
        → Laying N G marks x (k + 1) D' todo' (c + 1)
    laying_more {D'} {u} {w} U k_in m e ru rd et =
        let seat = (row_reads U k_in).1 in
        let s = both_stored D D' y (way u w) e (omega (arith, L.seats.up_long)) (omega (arith, L.seats.down_long)) in
        record {
          listing = listing_more L.listing U k_in (true_holds (says marks y) m) et;
          seats = record { up_long = (s Up).long ∙ L.seats.up_long; down_long = (s Down).long ∙ L.seats.down_long };
          there = λ d q r h t.
              either (same_or_not q k)
              (λ f.
              let g : get_or G.heads q 0 ≡ y = ap (λ v. get_or G.heads v 0) f in
              rw g ((s d).here ∙ road (road_between N) ru rd d))
              (λ f.
              (s d).off (get_or G.heads q 0) (λ g. f (once U.rows x q k U.under r k_in g))
              ∙ L.there d q r (omega arith) t);
        }
      where
        way : (u w : ℕ) → Direction → ℕ
        way u w Up = u
        way u w Down = w

        road : (f : ℕ → ℕ → ℕ) → u ≡ f x y → w ≡ f y x → (d : Direction) → way u w d ≡ along d f x y
        road f a b Up = a
        road f a b Down = b

  -- the whole row
  pub laying_all : {k : ℕ} {D : EdgeCosts} {todo : List ℕ} {c : ℕ} → Laying N G marks x k D todo c → get_or G.first (x + 1) 0 ≤ k
      → LaidRow N G marks x D todo c
  laying_all {k} L l =
      let I = L.listing in
      let all : (q : ℕ) → InRow G x q → q < k = λ q r. omega (arith, r.high, next_row G x) in
      record {
        listed = record {
          long = I.long;
          few = I.few;
          row = I.row;
          marked = I.marked;
          once = I.once;
          all = λ q r. I.all q r (all q r);
        };
        seats = L.seats;
        there = λ d q r. L.there d q r (all q r);
      }

-- both ends of the edge at place k are positions, and not the same
pub laying_ends : {G : Graph} {x k n : ℕ} → Turn G x → InRow G x k → n ≡ count G.first
    → let y = get_or G.heads k 0 in (x < n) × (y < n) × (x ≢ y) × (y ≢ x)
laying_ends {x = x} {k = k} U r en =
    let a = U.rows.above x k U.under r in
    let b = U.rows.below x k U.under r in
    (omega (arith, U.under), omega arith, λ f. omega arith, λ f. omega arith)
