-- Walks along open roads, as lists of arcs between junctions, and the ways between positions that the theory speaks of: each gives the
-- other. Assumes nothing.
use Prim.Native.Nat.{ℕ, suc, ◌+◌, ◌≤◌, ◌<◌}
use mathlib.Core.Path.{◌≡◌, refl, sym, ap, ◌∙◌, subst}
use mathlib.Core.Logic.{◌≢◌}
use mathlib.Core.Bool.{◌&&◌}
use mathlib.Core.List.{List, [], ◌∷◌, map}
use native.Mathlib.Omega.{arith}
use lib.Dec.{T, eqb, ltb}
use lib.ListN.{length, get_or}
use Rattle.rules.specs.Costs.{closed}
use Rattle.rules.specs.Net.{Net, size, arcs, tail, head, arc_cost, junction, in_force, arc_between, road_between}
use Rattle.theory.specs.Demand3.{is_walk, walk_cost, passed}
use Rattle.theory.proofs.Words.{and_i, and_l, and_r, eqb_e, eqb_i, ltb_e, ltb_i}
use Rattle.theory.proofs.Roads.{OpenArc, between_arc, arc_between_lem, force_apart, force_open}
use Rattle.theory.proofs.Route.{Drive, stop, leg}
use Rattle.theory.proofs.Ways.{Walk, stay, go}
use Rattle.theory.proofs.Simple.{places, steps}
use Rattle.theory.specs.Orders.{Inverse}
use Rattle.theory.proofs.Joined.{two_i}

module _ (N : Net) where
  -- a walk's first arc, and the walk from its head
  pub walk_first : (u v i : ℕ) (is : List ℕ) → T (is_walk N u (i ∷ is) v) → OpenArc N u (head N i) i × T (is_walk N (head N i) is v)
  unfolding is_walk
  walk_first u v i is t =
      let a = ltb i (arcs N) in
      let b = in_force N i in
      let c = eqb (tail N i) u in
      let d = is_walk N (head N i) is v in
      let abc : T (a && b && c) = and_l (a && b && c) d t in
      let ab : T (a && b) = and_l (a && b) c abc in (
        (record { listed = ltb_e i (arcs N) (and_l a b ab); in_force_lem = and_r a b ab; tail_is = eqb_e (tail N i) u (and_r (a && b) c abc); head_is = refl }),
        and_r (a && b && c) d t,
      )

  pub walk_more : (u v w i : ℕ) (is : List ℕ) → OpenArc N u w i → T (is_walk N w is v) → T (is_walk N u (i ∷ is) v)
  unfolding is_walk
  walk_more u v w i is o t =
      let a = ltb i (arcs N) in
      let b = in_force N i in
      let c = eqb (tail N i) u in
      and_i (a && b && c) (is_walk N (head N i) is v)
      (and_i (a && b) c (and_i a b (ltb_i i (arcs N) o.listed) o.in_force_lem) (eqb_i (tail N i) u o.tail_is))
      (subst (λ x. T (is_walk N x is v)) (sym o.head_is) t)

  pub walk_none : (u v : ℕ) → T (is_walk N u [] v) → u ≡ v
  unfolding is_walk
  walk_none u v t = eqb_e u v t

  pub walk_stay : (u v : ℕ) → u ≡ v → T (is_walk N u [] v)
  unfolding is_walk
  walk_stay u v e = eqb_i u v e

  -- a drive between positions is a walk between their junctions, of the same cost
  pub drive_walk : {a b w : ℕ} {is : List ℕ} → Drive (road_between N) (arc_between N) a b is w
      → T (is_walk N (junction N a) is (junction N b)) × (walk_cost N is ≡ w)
  unfolding walk_cost
  drive_walk {b = b} (stop e f) =
      (subst (λ l. T (is_walk N (junction N b) l (junction N b))) (sym e) (walk_stay (junction N b) (junction N b) refl), ap (walk_cost N) e ∙ sym f)
  drive_walk {a = a} {b = c} {w = x} {is = js} (leg {b = b} {w = w} {is = is} r d e f) =
      let o = between_arc N a b r in
      let t = drive_walk d in (
        subst (λ l. T (is_walk N (junction N a) l (junction N c))) (sym e)
            (walk_more (junction N a) (junction N c) (junction N b) (arc_between N a b) is o.1 t.0),
        ap (walk_cost N) e ∙ (let g = t.1 in let h = o.2 in omega arith),
      )

  -- a drive between positions is a way between them, which passes the same junctions and has as many steps as there are arcs
  pub drive_way : {a b w : ℕ} {is : List ℕ} → ((u v : ℕ) → road_between N u v ≢ closed → road_between N u v < closed)
      → Drive (road_between N) (arc_between N) a b is w
      → (p : Walk closed (road_between N) a b w) × (passed N (junction N a) is ≡ map (junction N) (places p)) × (length is ≡ steps p)
  unfolding passed places steps
  drive_way {b = b} f (stop e g) = (stay g, ap (passed N (junction N b)) e, ap length e)
  drive_way {a = a} {w = x} {is = js} f (leg {b = b} {is = is} r d e g) =
      let (p, q, l) = drive_way f d in
      let o = (between_arc N a b r).1 in (
        go {x = x} (f a b r) p g,
        ap (passed N (junction N a)) e ∙ ap (λ l. junction N a ∷ l) (ap (λ u. passed N u is) o.head_is ∙ q),
        ap length e ∙ ap suc l,
      )

  -- a way between positions can be driven
  pub way_drive : {a b w : ℕ} → Walk closed (road_between N) a b w → (is : List ℕ) × Drive (road_between N) (arc_between N) a b is w
  way_drive (stay e) = ([], stop refl e)
  way_drive {a = a} {w = x} (go {u = u} r p e) =
      let (is, d) = way_drive p in
      let l : road_between N a u < closed = r in
      (arc_between N a u ∷ is, leg {x = x} (λ (f : road_between N a u ≡ closed). omega arith) d refl e)

  -- a walk between junctions is a way between their positions that costs no more
  module _ {rank : List ℕ} (I : Inverse N.order rank)
      (ends : (i : ℕ) → i < arcs N → (tail N i < size N) × (head N i < size N))
      (finite : (i : ℕ) → i < arcs N → arc_cost N i ≢ closed → arc_cost N i < closed) where
    pub walk_way : (is : List ℕ) (u v : ℕ) → u < size N → T (is_walk N u is v)
        → (x : ℕ) × Walk closed (road_between N) (get_or rank u 0) (get_or rank v 0) x × (x ≤ walk_cost N is)
    unfolding walk_cost
    walk_way [] u v h t = (0, subst (λ y. Walk closed (road_between N) (get_or rank u 0) (get_or rank y 0) 0) (walk_none u v t) (stay refl), omega arith)
    walk_way (i ∷ is) u v h t =
        let (o, r) = walk_first u v i is t in
        let y = head N i in
        let l : y < size N = (ends i o.listed).1 in
        let a = get_or rank u 0 in
        let b = get_or rank y 0 in
        let ja : junction N a ≡ u = I.there u h in
        let jb : junction N b ≡ y = I.there y l in
        let apart : a ≢ b = λ e. force_apart N i o.in_force_lem (o.tail_is ∙ sym ja ∙ ap (junction N) e ∙ jb) in
        let two = two_i N a b (I.position u h) (I.position y l) apart in
        let c : road_between N a b ≤ arc_cost N i =
        arc_between_lem N a b i two (record { listed = o.listed; in_force_lem = o.in_force_lem; tail_is = o.tail_is ∙ sym ja; head_is = sym jb }) in
        let g = finite i o.listed (force_open N i o.in_force_lem) in
        let (x, p, k) = walk_way is y v l r in
        (road_between N a b + x, go {s = a} {u = b} {x = road_between N a b + x} (omega arith) p refl, omega arith)
