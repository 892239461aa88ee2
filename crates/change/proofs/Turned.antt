-- One turn: marks, triangles and stores together lead from the costs that stand before the turn of x to those before the next. Assumes nothing.
use Prim.Native.Nat.{ℕ, ◌+◌, ◌≤◌, ◌<◌, min}
use mathlib.Core.Path.{◌≡◌, refl, sym, ap, ◌∙◌, subst}
use mathlib.Core.Logic.{◌⊎◌, inl, inr, ◌≢◌}
use mathlib.Core.Bool.{Bool, true, false}
use mathlib.Core.List.{List}
use native.Mathlib.Omega.{arith}
use lib.Dec.{T, eqb}
use lib.ListN.{length, get_or, length-set}
use Rattle.rules.specs.declared.Direction.{Direction}
use Rattle.rules.specs.declared.Direction.TheVariants.{Up, Down}
use Rattle.rules.specs.Words.{least}
use Rattle.rules.specs.Costs.{closed}
use Rattle.rules.specs.Net.{Net, road_between}
use Rattle.roads.specs.declared.Roads.{Roads}
use Rattle.rules.specs.Graph.{Graph}
use Rattle.rules.specs.Hierarchy.{EdgeCosts, linked, held, along}
use Rattle.rules.specs.Customised.{over}
use Rattle.rules.specs.Changed.{differs, reconsidered, triangles_from}
use Rattle.theory.specs.Rows.{InRow, Rows, Lists, count}
use Rattle.theory.proofs.Words.{either, split, true_holds, holds_true, true_false, or_l, or_r, or_e, eqb_i, eqb_e, same_or_not}
use Rattle.theory.proofs.Totals.{Same}
use Rattle.theory.proofs.Rows.{in_heads, linked_e, linked_i, linked_third, linked_two, row_of_lem}
use Rattle.theory.proofs.Held.{held_up, held_down}
use Rattle.theory.proofs.Changed.{Why, by_road, by_near, by_far, why, because, why_turn, new_is, differ_i, differ_e, calm_same, why_reached}
use Rattle.rules.specs.Lent.{chosen}
use Rattle.turns.specs.Edges.{At, Kept}
use Rattle.turns.proofs.Kept.{kept_none, kept_on}
use Rattle.reconsider.specs.Flags.{flagged}
use Rattle.reconsider.specs.Marks.{says, MarkedAt, set_here, not_here, Cause, road_changed, row_changed, MarkedRow}
use Rattle.reconsider.specs.Reaches.{Reaches}
use Rattle.reconsider.proofs.Said.{says_no, says_same, said, said_here}
use Rattle.look.specs.Looking.{Below, LookedRow}
use Rattle.change.specs.Turning.{new_of, again, Ways, Standing, LaidRow, Settled, Cleared, Noted, Carriage, Ready, Stepped}
use Rattle.change.proofs.Counted.{turn_count, from_same, from_none}

-- ---- both directions of an edge

-- costs differ if they do in one direction
differ_in : (f g : ℕ → ℕ → ℕ) (a b : ℕ) (d : Direction) → along d f a b ≢ along d g a b → T (differs f g a b)
differ_in f g a b Up n = differ_i f g a b (inl n)
differ_in f g a b Down n = differ_i f g a b (inr n)

-- and then only
differ_way : (f g : ℕ → ℕ → ℕ) (a b : ℕ) → T (differs f g a b) → (d : Direction) × (along d f a b ≢ along d g a b)
differ_way f g a b t = either (differ_e f g a b t) (λ n. (Up, n)) (λ n. (Down, n))

-- what the lists hold at an edge's place
held_at : {n : ℕ} {G : Graph} → Rows n G → (C : EdgeCosts) (p k : ℕ) → p < n → InRow G p k → k < length C.up → k < length C.down
    → (d : Direction) → get_or (chosen d C) k 0 ≡ along d (held G C) p (get_or G.heads k 0)
held_at R C p k l r u w Up = held_up R C p k l r u
held_at R C p k l r u w Down = held_down R C p k l r w

along_small : (f : ℕ → ℕ → ℕ) (top : ℕ) → ((a b : ℕ) → f a b ≤ top) → (d : Direction) (a b : ℕ) → along d f a b ≤ top
along_small f top h Up a b = h a b
along_small f top h Down a b = h b a

-- ---- for some roads before and after

module _ {G : Graph} {before after : ℕ → ℕ → ℕ} {C₀ C : EdgeCosts} {x : ℕ} {flags : List ℕ} (L : Lists G C)
    (S : Standing G before after C₀ x C flags) where
  abbrev n : ℕ
  n = count G.first

  abbrev J : ℕ → ℕ → Bool
  J = linked G

  abbrev old : ℕ → ℕ → ℕ
  old = held G C₀

  abbrev new : ℕ → ℕ → ℕ
  new = new_of G before after C₀

  abbrev Reason : ℕ → ℕ → Type 0
  Reason = Why J before after old new

  -- what the lists before held at the edges of the row of x, and of higher ones, still stands there
  stood : (d : Direction) (p k : ℕ) → x ≤ p → p < n → InRow G p k → get_or (chosen d C) k 0 ≡ along d old p (get_or G.heads k 0)
  stood d p k h l r =
      let i = (in_heads L.rows p k l r).0 in
      S.higher d p k h l r
      ∙ held_at L.rows C₀ p k l r (omega (arith, L.up_long, S.kept.up_long)) (omega (arith, L.down_long, S.kept.down_long)) d

  -- an edge that is not reconsidered keeps its costs
  calm : (p y : ℕ) → (Reason p y → ⊥) → (d : Direction) → along d new p y ≡ along d old p y
  calm p y h Up = (calm_same J before after old p y h).0
  calm p y h Down = (calm_same J before after old p y h).1

  -- so they are its new ones
  pub stays : (p k : ℕ) → x ≤ p → p < n → InRow G p k → (Reason p (get_or G.heads k 0) → ⊥) → At G C new p k
  stays p k h l r none = record { stands = λ d. stood d p k h l r ∙ sym (calm p (get_or G.heads k 0) none d) }

  -- a row without a reconsidered edge counts for nothing
  pub uncounted : (p : ℕ) → ((k : ℕ) → InRow G p k → Reason p (get_or G.heads k 0) → ⊥) → triangles_from J (again G before after C₀) n p ≡ 0
  uncounted p none =
      from_none J (again G before after C₀) n p
      (λ y h j t.
      let (k, q, e) = linked_e L.rows p y j h in
      none k q (subst (λ v. Reason p v) (sym e) (why J before after old new p y t)))

  module _ (l : x < n) where
    -- the costs of the lower rows
    standing_below : Below G new x C
    standing_below = record { there = λ p k h r. S.lower p k h (omega arith) r }

    -- no edge of the row of x was flagged
    unflagged : (k : ℕ) → InRow G x k → T (flagged flags k) → ⊥
    unflagged k r f = omega (arith, (S.flag_e x k l r f).0)

    -- an edge that is reconsidered gets its costs by the rule
    ruled : (y : ℕ) → x < y → Reason x y → (d : Direction) → along d new x y ≡ least (along d (over J new) x y) (along d after x y) x
    ruled y h w Up =
        let e : min x y ≡ x = omega arith in
        let t = holds_true (reconsidered J before after old new x y) (because J before after old new x y w) in
        let s : new x y ≡ least (over J new x y) (after x y) (min x y) = new_is J before after old x y ∙ rw t refl in
        s ∙ ap (least (over J new x y) (after x y)) e
    ruled y h w Down =
        let e : min y x ≡ x = omega arith in
        let t = holds_true (reconsidered J before after old new y x) (because J before after old new y x (why_turn J before after old new x y w)) in
        let s : new y x ≡ least (over J new y x) (after y x) (min y x) = new_is J before after old y x ∙ rw t refl in
        s ∙ ap (least (over J new y x) (after y x)) e

    -- once the row of x has its new costs, and just its edges that changed are flagged, what stands is what stands before the next turn
    standing_on : {C' : EdgeCosts} {flags' : List ℕ} → Kept G C C'
        → ((p k : ℕ) → p ≢ x → p < n → InRow G p k → ((d : Direction) → get_or (chosen d C') k 0 ≡ get_or (chosen d C) k 0) × (flagged flags' k ≡ flagged flags k))
        → ((k : ℕ) → InRow G x k → At G C' new x k × Same (flagged flags' k) (differs old new x (get_or G.heads k 0)))
        → Standing G before after C₀ (x + 1) C' flags'
    standing_on {C'} {flags'} K apart own =
        record {
          kept = kept_on S.kept K;
          lower = λ p k h m q.
              either (same_or_not p x)
              (λ e. subst (λ v. At G C' new v k) (sym e) (own k (subst (λ v. InRow G v k) e q)).0)
              (λ e. record { stands = λ d. (apart p k e m q).0 d ∙ (S.lower p k (omega arith) m q).stands d });
          higher = λ d p k h m q. (apart p k (λ e. omega arith) m q).0 d ∙ S.higher d p k (omega arith) m q;
          flag_e = λ p k m q t.
              either (same_or_not p x)
              (λ e. (omega arith, subst (λ v. T (differs old new v (get_or G.heads k 0))) (sym e) ((own k (subst (λ v. InRow G v k) e q)).1.0 t)))
              (λ e. let (a, b) = S.flag_e p k m q (subst T (apart p k e m q).1 t) in (omega arith, b));
          flag_i = λ p k h m q t.
              either (same_or_not p x)
              (λ e. (own k (subst (λ v. InRow G v k) e q)).1.1 (subst (λ v. T (differs old new v (get_or G.heads k 0))) e t))
              (λ e. subst T (sym (apart p k e m q).1) (S.flag_i p k (omega arith) m q t));
        }

    -- a turn in which no edge is reconsidered
    pub turn_idle : {s : ℕ} → ((k : ℕ) → InRow G x k → Reason x (get_or G.heads k 0) → ⊥)
        → Standing G before after C₀ (x + 1) C flags × (s ≡ s + triangles_from J (again G before after C₀) n x)
    turn_idle none = (
      standing_on (kept_none G C) (λ p k e m q. (λ d. refl, refl))
          (λ k q. (
            stays x k (omega arith) l q (none k q),
            (
              λ t. absurd (unflagged k q t),
              λ t. let (d, f) = differ_way old new x (get_or G.heads k 0) t in absurd (f (sym (calm x (get_or G.heads k 0) (none k q) d))),
            ),
          )),
      omega (arith, uncounted x none),
    )

    module _ {own : ℕ → Bool} {marks : List Bool} (owns : (y : ℕ) → x < y → Same (own y) (differs before after x y)) (M : MarkedRow G flags own x marks) where
      cause_why : (y : ℕ) → x < y → Cause G flags own x y → Reason x y
      cause_why y h (road_changed t) = by_road ((owns y h).0 t)
      cause_why y h (row_changed z a b zx ra rb ea eb xy t) =
          let zn : z < n = omega arith in
          let jx = linked_i L.rows z a x zn ra ea in
          let jy = linked_i L.rows z b y zn rb eb in
          either (or_e (flagged flags a) (flagged flags b) t)
          (λ f. by_near z (omega arith) jx jy (subst (λ v. T (differs old new z v)) ea (S.flag_e z a zn ra f).1))
          (λ f. by_far z (omega arith) jx jy (subst (λ v. T (differs old new z v)) eb (S.flag_e z b zn rb f).1))

      -- a lower row that has both ends, with a changed edge to one of them, has a flagged one
      lower_cause : (y z : ℕ) → x < y → z < min x y → T (J z x) → T (J z y) → T (differs old new z x) ⊎ T (differs old new z y) → Cause G flags own x y
      lower_cause y z h g jx jy w =
          let zn : z < n = omega arith in
          let (a, ra, ea) = linked_e L.rows z x jx (omega arith) in
          let (b, rb, eb) = linked_e L.rows z y jy (omega arith) in
          row_changed z a b (omega arith) ra rb ea eb h
          (either w
          (λ d. or_l (flagged flags a) (flagged flags b) (S.flag_i z a (omega arith) zn ra (subst (λ v. T (differs old new z v)) (sym ea) d)))
          (λ d. or_r (flagged flags a) (flagged flags b) (S.flag_i z b (omega arith) zn rb (subst (λ v. T (differs old new z v)) (sym eb) d))))

      why_cause : (y : ℕ) → x < y → Reason x y → Cause G flags own x y
      why_cause y h (by_road d) = road_changed ((owns y h).1 d)
      why_cause y h (by_near z g jx jy d) = lower_cause y z h g jx jy (inl d)
      why_cause y h (by_far z g jx jy d) = lower_cause y z h g jx jy (inr d)

      -- the marked edges are the reconsidered ones
      pub marked_why : (y : ℕ) → x < y → T (says marks y) → Reason x y
      marked_why y h t = cause_why y h (M.cause y t)

      pub why_marked : (y : ℕ) → x < y → Reason x y → T (says marks y)
      why_marked y h w = M.marked y (why_cause y h w)

      module _ {D D' : EdgeCosts} {s r : ℕ} (shut : (a b : ℕ) → after a b ≤ closed)
          (roads : (d : Direction) (k : ℕ) → InRow G x k → T (says marks (get_or G.heads k 0)) → get_or (chosen d D) (get_or G.heads k 0) 0 ≡ along d after x (get_or G.heads k 0))
          (K : LookedRow G C marks x D D' s r) {C' : EdgeCosts} {flags' : List ℕ} (N : Settled G marks D' x C flags C' flags') where
        -- a marked edge gets its new costs
        got : (d : Direction) (k : ℕ) → InRow G x k → T (says marks (get_or G.heads k 0))
            → get_or (chosen d D') (get_or G.heads k 0) 0 ≡ along d new x (get_or G.heads k 0)
        got d k q m =
            let y = get_or G.heads k 0 in
            let h = L.rows.above x k l q in
            let e : get_or (chosen d D) y 0 ≡ along d after x y = roads d k q m in
            K.lowest d new standing_below k q m (omega (arith, along_small after closed shut d x y))
            ∙ ap (λ v. least (along d (over J new) x y) v x) e ∙ sym (ruled y h (marked_why y h m) d)

        -- each edge of the row of x, marked or not
        own_edge : (k : ℕ) → InRow G x k → At G C' new x k × Same (flagged flags' k) (differs old new x (get_or G.heads k 0))
        own_edge k q =
            let y = get_or G.heads k 0 in
            either (split (says marks y))
            (λ e.
            let m = true_holds (says marks y) e in (
              record { stands = λ d. N.here d k q m ∙ got d k q m },
              (
                λ t. either (N.flag_e k q m t) (λ f. absurd (unflagged k q f))
                    (λ w. let (d, f) = w in differ_in old new x y d (λ g. f (stood d x k (omega arith) l q ∙ g ∙ sym (got d k q m)))),
                λ t. let (d, f) = differ_way old new x y t in N.flag_i d k q m (λ g. f (sym (stood d x k (omega arith) l q) ∙ g ∙ got d k q m)),
              ),
            ))
            (λ e.
            let m : T (says marks y) → ⊥ = λ v. true_false (sym (holds_true (says marks y) v) ∙ e) in
            let c = calm x y (λ w. m (why_marked y (L.rows.above x k l q) w)) in
            let (a, b) = N.others k (λ s v. m v) in (
              record { stands = λ d. a d ∙ stood d x k (omega arith) l q ∙ sym (c d) },
              (λ t. absurd (unflagged k q (subst T b t)), λ t. let (d, f) = differ_way old new x y t in absurd (f (sym (c d)))),
            ))

        -- a turn in which edges are reconsidered
        pub turn_more : Kept G C C'
            → Standing G before after C₀ (x + 1) C' flags' × (r ≡ s + triangles_from J (again G before after C₀) n x)
        turn_more T₀ = (
          standing_on T₀ (λ p k e m q. N.others k (λ s v. e (row_of_lem L.rows p x k m l q s))) own_edge,
          K.number
              ∙ ap (λ v. s + v)
              (turn_count L.rows x marks L.few
              ∙ from_same J (λ a b. says marks b) (again G before after C₀) n x
              (λ y h j. (λ t. because J before after old new x y (marked_why y h t), λ t. why_marked y h (why J before after old new x y t)))),
        )

-- ---- whatever the roads were before

-- marks are as many as before
pub marked_at_long : {y : ℕ} {yes : Bool} {marks marks' : List Bool} → MarkedAt y yes marks marks' → length marks' ≡ length marks
marked_at_long {y} {marks = marks} (set_here t e) = ap length e ∙ length-set marks y true
marked_at_long (not_here t e) = ap length e

module _ {N : Net} {threads : Roads} {G : Graph} {C : EdgeCosts} {words lo hi x : ℕ} (A : Carriage N threads G C words lo hi)
    (l : x < count G.first) where
  -- the higher end of the edge whose road changed is a position
  pub hi_seat : hi < 4096
  hi_seat = omega (arith, (linked_two A.lists.rows lo hi A.edge).1, A.lists.few)

  abbrev after : ℕ → ℕ → ℕ
  after = road_between N

  -- a turn that changes nothing: no edge of the row of x is reconsidered
  stepped_calm : {flags : List ℕ} {dirty : List Bool} {s : ℕ}
      → ((before : ℕ → ℕ → ℕ) (C₀ : EdgeCosts) → Ways N lo hi before
      → Standing G before after C₀ x C flags → (k : ℕ) → InRow G x k
      → Why (linked G) before after (held G C₀) (new_of G before after C₀) x (get_or G.heads k 0) → ⊥)
      → Stepped N G lo hi x C flags dirty C flags dirty s s
  stepped_calm none =
      record {
        kept = kept_none G C;
        words = refl;
        few = omega arith;
        dirty_off = λ z e. refl;
        dirty_full = λ t. inl t;
        turned = λ before C₀ w S. turn_idle A.lists S l (none before C₀ w S);
      }

  -- the turn of a position that the change cannot reach
  pub stepped_off : {on : List Bool} {flags : List ℕ} {dirty marks : List Bool} {D : EdgeCosts} {todo : List ℕ} {s : ℕ} → Reaches G lo on → get_or on x false ≡ false → Ready G flags dirty marks D todo
      → Stepped N G lo hi x C flags dirty C flags dirty s s × Ready G flags dirty marks D todo
  stepped_off {on} H e E = (
    stepped_calm
        (λ before C₀ w S k q r.
        says_no on x e
        (why_reached (linked G) before after (held G C₀) (λ p. T (says on p)) lo H.start
        (λ p o po j t.
        let (i, ri, ei) = linked_e A.lists.rows p o j po in
        subst (λ v. T (says on v)) ei (H.upward.entries p i (linked_two A.lists.rows p o j).0 ri t))
        (λ a b ab t. (w.only a b ab t).0) x (get_or G.heads k 0) (A.lists.rows.above x k l q) r)),
    E,
  )

  module _ {flags : List ℕ} {dirty marks marks₁ marks₂ : List Bool} {D : EdgeCosts} {todo : List ℕ} (E : Ready G flags dirty marks D todo) (B : MarkedAt hi (eqb x lo) marks marks₁)
      (M : MarkedRow G flags (says marks₁) x marks₂) where
    -- the edge whose road changed is marked, in the turn of its lower end, and no other
    own_e : (y : ℕ) → T (says marks₁ y) → (x ≡ lo) × (y ≡ hi)
    own_e y t = by B
      where
        by : MarkedAt hi (eqb x lo) marks marks₁ → (x ≡ lo) × (y ≡ hi)
        by (set_here u e) =
            let s = said marks marks₁ hi true e (omega (arith, E.clear.long, hi_seat)) in (
              eqb_e x lo u,
              either (same_or_not y hi) (λ f. f) (λ f. absurd (E.clear.none y (says_same marks₁ marks y (sym (s.off y f)) t))),
            )
        by (not_here u e) = absurd (E.clear.none y (subst (λ v. T (says v y)) e t))

    own_i : (y : ℕ) → x ≡ lo → y ≡ hi → T (says marks₁ y)
    own_i y ex ey = by B
      where
        by : MarkedAt hi (eqb x lo) marks marks₁ → T (says marks₁ y)
        by (set_here u e) =
            let s = said marks marks₁ hi true e (omega (arith, E.clear.long, hi_seat)) in
            subst (λ v. T (says marks₁ v)) (sym ey) (said_here s)
        by (not_here u e) = absurd (u (eqb_i x lo ex))

    owns : (before : ℕ → ℕ → ℕ) → Ways N lo hi before
        → (y : ℕ) → x < y → Same (says marks₁ y) (differs before after x y)
    owns before w y h = (
      λ t. let (ex, ey) = own_e y t in rw (ex, ey) w.there,
      λ t. let (ex, ey) = w.only x y h t in own_i y ex ey,
    )

    -- a marked position is in the row of x
    in_x : (y : ℕ) → T (says marks₂ y) → (k : ℕ) × InRow G x k × (get_or G.heads k 0 ≡ y)
    in_x y t = by (M.cause y t)
      where
        by : Cause G flags (says marks₁) x y → (k : ℕ) × InRow G x k × (get_or G.heads k 0 ≡ y)
        by (road_changed u) =
            let (ex, ey) = own_e y u in
            linked_e A.lists.rows x y (rw (ex, ey) A.edge) (omega (arith, A.rising))
        by (row_changed z a b h ra rb ea eb xy f) =
            let R = A.lists.rows in
            let zn : z < count G.first = omega arith in
            linked_e R x y (linked_third R z x y h (omega arith) (λ g. omega arith) (linked_i R z a x zn ra ea) (linked_i R z b y zn rb eb)) xy

    module _ {D₁ : EdgeCosts} {todo' : List ℕ} {c : ℕ} (W : LaidRow N G marks₂ x D₁ todo' c) where
      -- the turn of a position whose row has no reconsidered edge
      pub stepped_idle : {s : ℕ} → c ≡ 0 → Stepped N G lo hi x C flags dirty C flags dirty s s × Ready G flags dirty marks₂ D₁ todo'
      stepped_idle e = (
        stepped_calm
            (λ before C₀ w S k q r.
            none e k q
            (why_marked A.lists S l (owns before w) M (get_or G.heads k 0) (A.lists.rows.above x k l q) r)),
        record {
          dirt = E.dirt;
          clear = record {
            long = M.long;
            none = λ y t. let (k, q, f) = in_x y t in none e k q (subst (λ v. T (says marks₂ v)) (sym f) t);
          };
          seats = W.seats;
          todo_long = W.listed.long;
        },
      )
        where
          none : c ≡ 0 → (k : ℕ) → InRow G x k → T (says marks₂ (get_or G.heads k 0)) → ⊥
          none e k q t = let (i, h, f) = W.listed.all k q t in omega arith

      -- any other turn
      pub stepped_more : {D₂ C' : EdgeCosts} {flags' : List ℕ} {dirty' marks₃ : List Bool} {s r : ℕ} → LookedRow G C marks₂ x D₁ D₂ s r
          → Settled G marks₂ D₂ x C flags C' flags' → Cleared G x marks₂ marks₃ → Noted G x flags flags' dirty dirty'
          → Stepped N G lo hi x C flags dirty C' flags' dirty' s r × Ready G flags' dirty' marks₃ D₂ todo'
      stepped_more {dirty' = dirty'} {marks₃} K N F O =
          let R = A.lists.rows in
          let on : Kept G C _ = record {
            up_long = N.up_long;
            down_long = N.down_long;
            rest = λ d k h. (N.others k (λ q m. omega (arith, (in_heads R x k l q).0))).0 d;
          } in (
            record {
              kept = on;
              words = N.words;
              few = K.few;
              dirty_off = O.off;
              dirty_full = O.full;
              turned = λ before C₀ w S.
                  turn_more A.lists S l (owns before w) M w.shut (W.there) K N on;
            },
            record {
              dirt = record {
                long = O.long ∙ E.dirt.long;
                shown = λ z k h q t.
                    either (same_or_not z x)
                    (λ f.
                    let q' = subst (λ v. InRow G v k) f q in
                    subst (λ v. T (says dirty' v)) (sym f) (either (O.here k q' t) (λ g. O.stay (E.dirt.shown x k l q' g)) (λ g. g)))
                    (λ f.
                    says_same dirty dirty' z (O.off z f)
                    (E.dirt.shown z k h q (subst T (N.others k (λ s m. f (row_of_lem R z x k h l q s))).1 t)));
              };
              clear = record {
                long = F.long ∙ M.long;
                none = λ y t. let (k, q, f) = in_x y (F.less y t) in F.gone k q (subst (λ v. T (says marks₃ v)) (sym f) t);
              };
              seats = K.seats;
              todo_long = W.listed.long;
            },
          )
