-- Ways over places that are numbers: the walks that are driven, the joined pairs and their costs, the labels, and why the least sum of two
-- labels is the least walk. Places stand in the order of contraction; a top Ω stands for a closed cost, a top N for no label, and sums are
-- plain. Assumes nothing.
use Prim.Native.Nat.{ℕ, zero, suc, ◌+◌, ◌≤◌, ◌<◌, min}
use native.Mathlib.Nat.{add_comm}
use native.Mathlib.Omega.{arith}
use native.Mathlib.Decide.{dec_lt, ℕ_discrete}
use mathlib.Core.Path.{◌≡◌, refl}
use mathlib.Core.Logic.{◌⊎◌, ◌≢◌, ⊎_elim, by_cases}

-- a way from s to t of total w: steps that are allowed, one after another; their costs add up to w
pub data Way (step : ℕ → ℕ → Type 0) (cost : ℕ → ℕ → ℕ) : ℕ → ℕ → ℕ → Type 0 where
  stay : {s w : ℕ} → w ≡ 0 → Way step cost s s w
  go : {s u t w x : ℕ} → step s u → Way step cost u t w → x ≡ cost s u + w → Way step cost s t x

-- a walk takes open roads
abbrev pub Walk : (Ω : ℕ) (road : ℕ → ℕ → ℕ) (s t w : ℕ) → Type 0
Walk Ω road = Way (λ u v. road u v < Ω) road

-- a step between places that pass
abbrev pub Within : (passes : ℕ → Type 0) (step : ℕ → ℕ → Type 0) (u v : ℕ) → Type 0
Within passes step u v = step u v × passes u × passes v

-- a place that, unless it is a or b itself, is lower than both
abbrev pub Low : (a b u : ℕ) → Type 0
Low a b u = u ≢ a → u ≢ b → u < min a b

-- a walk that keeps below both ends
abbrev pub LowWalk : (Ω : ℕ) (road : ℕ → ℕ → ℕ) (a b w : ℕ) → Type 0
LowWalk Ω road a b = Way (Within (Low a b) (λ u v. road u v < Ω)) road a b

-- a step upward along a joined pair
abbrev pub Above : (joined : ℕ → ℕ → Type 0) (q p : ℕ) → Type 0
Above joined q p = (q < p) × joined q p

-- a way up; step q p is what it costs to get from q to p, or, going the other way, from p to q
abbrev pub Up : (joined : ℕ → ℕ → Type 0) (step : ℕ → ℕ → ℕ) (s p w : ℕ) → Type 0
Up joined step = Way (Above joined) step

-- the cost of the same step driven the other way
abbrev pub turned : (cost : ℕ → ℕ → ℕ) (q p : ℕ) → ℕ
turned cost q p = cost p q

-- two higher neighbours of a place are joined
abbrev pub Third : (joined : ℕ → ℕ → Type 0) → Type 0
Third joined = (z a b : ℕ) → z < a → z < b → a ≢ b → joined z a → joined z b → joined a b

-- the joined pairs of n places: roads join, and so does contraction
pub record Joins (Ω n : ℕ) (road : ℕ → ℕ → ℕ) (joined : ℕ → ℕ → Type 0) : Type 0 where
  pub turn : {a b : ℕ} → joined a b → joined b a
  pub apart : {a b : ℕ} → joined a b → a ≢ b
  pub below : {a b : ℕ} → joined a b → a < n
  pub roads : {a b : ℕ} → road a b < Ω → joined a b
  pub third : Third joined

-- the cost from a to b is made of the costs over a place below both
pub record Through (joined : ℕ → ℕ → Type 0) (cost : ℕ → ℕ → ℕ) (a b : ℕ) : Type 0 where
  pub mid : ℕ
  pub under_a : mid < a
  pub under_b : mid < b
  pub to_a : joined mid a
  pub to_b : joined mid b
  pub sum : cost a b ≡ cost a mid + cost mid b

-- customised costs: the least of the road and of the ways over places below both ends
pub record Customised (Ω : ℕ) (road : ℕ → ℕ → ℕ) (joined : ℕ → ℕ → Type 0) (cost : ℕ → ℕ → ℕ) : Type 0 where
  pub direct : {a b : ℕ} → joined a b → cost a b ≤ road a b
  pub over : {z a b : ℕ} → z < a → z < b → a ≢ b → joined z a → joined z b → cost a b ≤ cost a z + cost z b
  pub made : {a b : ℕ} → joined a b → cost a b < Ω → (cost a b ≡ road a b) ⊎ Through joined cost a b

-- the label of p is handed on by a lower place
pub record Link (Ω : ℕ) (joined : ℕ → ℕ → Type 0) (step : ℕ → ℕ → ℕ) (label : ℕ → ℕ) (p : ℕ) : Type 0 where
  pub from : ℕ
  pub under : from < p
  pub edge : joined from p
  pub finite : step from p < Ω
  pub sum : label p ≡ label from + step from p

-- labels: 0 at s, elsewhere the least that lower places hand on. With the costs these are the labels from the start, with the costs turned
-- round those from the target
pub record Labels (Ω N : ℕ) (joined : ℕ → ℕ → Type 0) (step : ℕ → ℕ → ℕ) (s : ℕ) (label : ℕ → ℕ) : Type 0 where
  pub start : label s ≡ 0
  pub least : {q p : ℕ} → q < p → joined q p → step q p < Ω → label p ≤ label q + step q p
  pub made : {p : ℕ} → label p < N → (p ≡ s) ⊎ Link Ω joined step label p

-- d is the least sum of two labels at one of n places
pub record Meets (n N : ℕ) (from to : ℕ → ℕ) (d : ℕ) : Type 0 where
  pub least : (p : ℕ) → p < n → d ≤ from p + to p
  pub made : d < N → (p : ℕ) × (p < n) × (d ≡ from p + to p)

-- from s up to a highest place and down to t, for no more than w
pub record UpDown (joined : ℕ → ℕ → Type 0) (cost : ℕ → ℕ → ℕ) (s t w : ℕ) : Type 0 where
  pub top : ℕ
  pub up : ℕ
  pub down : ℕ
  pub ascent : Up joined cost s top up
  pub descent : Up joined (turned cost) t top down
  pub bound : up + down ≤ w

-- one way after another
pub append : {step : ℕ → ℕ → Type 0} {cost : ℕ → ℕ → ℕ} {s u t w x : ℕ}
    → Way step cost s u w → Way step cost u t x → Way step cost s t (w + x)
append {w = w} {x = x} (stay e) q = let z : w + x ≡ x = omega arith in rw z q
append {w = w} {x = x} (go r p e) q = go {x = w + x} r (append p q) (omega arith)

-- a way of one step
pub one : {step : ℕ → ℕ → Type 0} {cost : ℕ → ℕ → ℕ} {s t : ℕ} → step s t → Way step cost s t (cost s t)
one {cost = cost} {s = s} {t = t} r = go {x = cost s t} r (stay refl) (omega arith)

-- a way is one under any rule that allows its steps
pub widen : {step wider : ℕ → ℕ → Type 0} {cost : ℕ → ℕ → ℕ} {s t w : ℕ}
    → ((u v : ℕ) → step u v → wider u v) → Way step cost s t w → Way wider cost s t w
widen f (stay e) = stay e
widen f (go {s = s} {u = u} r p e) = go (f s u r) (widen f p) e

-- the third side of a lower triangle is joined, and costs no more than the other two
pub record Meshed (joined : ℕ → ℕ → Type 0) (cost : ℕ → ℕ → ℕ) : Type 0 where
  pub turn : {a b : ℕ} → joined a b → joined b a
  pub apart : {a b : ℕ} → joined a b → a ≢ b
  pub third : Third joined
  pub over : {z a b : ℕ} → z < a → z < b → a ≢ b → joined z a → joined z b → cost a b ≤ cost a z + cost z b

module _ {joined : ℕ → ℕ → Type 0} {cost : ℕ → ℕ → ℕ} (M : Meshed joined cost) where
  -- a step to where a way up begins: the step goes up too, or it came down and ends the ascent, or the third side replaces it and the first
  -- step of the ascent
  extend : {u v t p r f x : ℕ}
      → joined u v → Up joined cost v p r → Up joined (turned cost) t p f → cost u v + r + f ≤ x → UpDown joined cost u t x
  extend {u} {v} {f = f} j (stay e) d b =
      by_cases (dec_lt u v)
      (λ l. record { top = v; up = cost u v; down = f; ascent = one (l, j); descent = d; bound = omega arith })
      (λ h. let ne = M.apart j in
      let back : Up joined (turned cost) v u (cost u v) = one (omega arith, M.turn j) in
      record { top = u; up = 0; down = f + cost u v; ascent = stay refl; descent = append d back; bound = omega arith })
  extend {u} {v} {p = p} {r = r} {f = f} j (go {u = q} {w = w} (l, k) a e) d b =
      by_cases (dec_lt u v)
      (λ h. record { top = p; up = cost u v + r; down = f; ascent = go (h, j) (go (l, k) a e) refl; descent = d; bound = b })
      (λ h. let ne = M.apart j in
      let g : v < u = omega arith in
      by_cases (ℕ_discrete u q)
      (λ same. record { top = p; up = w; down = f; ascent = rw same a; descent = d; bound = omega arith })
      (λ other. extend (M.third v u q g l other (M.turn j) k) a d (omega (arith, M.over g l other (M.turn j) k))))

  -- any way whose steps are joined and cost no less than the joined pair can be had by going up and then down
  pub up_down : {step : ℕ → ℕ → Type 0} {toll : ℕ → ℕ → ℕ} {s t w : ℕ}
      → ((u v : ℕ) → step u v → joined u v × (cost u v ≤ toll u v)) → Way step toll s t w → UpDown joined cost s t w
  up_down f (stay {s = s} e) = record { top = s; up = 0; down = 0; ascent = stay refl; descent = stay refl; bound = omega arith }
  up_down f (go {s = s} {u = u} r p e) =
      let d = up_down f p in
      extend (f s u r).0 d.ascent d.descent (omega (arith, (f s u r).1, d.bound))

-- labels are made from s upward, step by step: what holds of s and 0 and is handed on holds of every labelled place and its label
pub by_labels : {Ω N s : ℕ} {joined : ℕ → ℕ → Type 0} {step : ℕ → ℕ → ℕ} {label : ℕ → ℕ}
    → Labels Ω N joined step s label → (P : ℕ → ℕ → Type 0) → P s 0
    → ((q p l : ℕ) → q < p → joined q p → step q p < Ω → P q l → P p (l + step q p)) → (p : ℕ) → label p < N → P p (label p)
by_labels {N = N} {s = s} {label = label} L P base next p = below (suc p) p (omega arith)
  where
    below : (k p : ℕ) → p < k → label p < N → P p (label p)
    below zero p l f = absurd (omega arith)
    below (suc k) p l f =
        ⊎_elim
        (λ (e : p ≡ s). rw (e, L.start) base)
        (λ m. rw m.sum (next m.from p (label m.from) m.under m.edge m.finite (below k m.from (omega arith) (omega arith))))
        (L.made f)

-- a walk that keeps below x and y keeps below a and b, if x and y do
lower : {Ω x y w : ℕ} {road : ℕ → ℕ → ℕ} (a b : ℕ) → Low a b x → Low a b y → min x y ≤ min a b
    → LowWalk Ω road x y w → Way (Within (Low a b) (λ u v. road u v < Ω)) road x y w
lower {x = x} {y = y} a b hx hy l p = widen (λ u v r. (r.0, inner u r.1, inner v r.2)) p
  where
    inner : (u : ℕ) → Low x y u → Low a b u
    inner u h =
        by_cases (ℕ_discrete u x)
        (λ e. rw e hx)
        (λ nx. by_cases (ℕ_discrete u y) (λ e. rw e hy) (λ ny. let g = h nx ny in omega arith))

module _ {Ω n : ℕ} {road cost : ℕ → ℕ → ℕ} {joined : ℕ → ℕ → Type 0}
    (J : Joins Ω n road joined) (C : Customised Ω road joined cost) where
  -- so it is with joined pairs and customised costs
  pub meshed : Meshed joined cost
  meshed = record { turn = J.turn; apart = J.apart; third = J.third; over = C.over }

  -- a customised cost that is not closed is that of a walk that keeps below both ends
  pub low : {a b : ℕ} → joined a b → cost a b < Ω → LowWalk Ω road a b (cost a b)
  low {a} {b} = below (suc (min a b)) a b (omega arith)
    where
      below : (k a b : ℕ) → min a b < k → joined a b → cost a b < Ω → LowWalk Ω road a b (cost a b)
      below zero a b l j f = absurd (omega arith)
      below (suc k) a b l j f =
          ⊎_elim
          (λ (e : cost a b ≡ road a b). rw e (one (omega arith, omega arith, omega arith)))
          (λ (m : Through joined cost a b). let z = m.mid in
          rw m.sum (append
          (lower a b (omega arith) (omega arith) (omega arith) (below k a z (omega arith) (J.turn m.to_a) (omega arith)))
          (lower a b (omega arith) (omega arith) (omega arith) (below k z b (omega arith) m.to_b (omega arith)))))
          (C.made j f)

  -- a customised cost that is not closed is that of a walk
  pub sound : {a b : ℕ} → joined a b → cost a b < Ω → Walk Ω road a b (cost a b)
  sound j f = widen (λ u v r. r.0) (low j f)

  -- every walk can be had by going up joined pairs and then down, for no more
  pub complete : {s t w : ℕ} → Walk Ω road s t w → UpDown joined cost s t w
  complete p = up_down meshed (λ u v r. (J.roads r, C.direct (J.roads r))) p

  -- a way up ends at one of the places
  top_below : {step : ℕ → ℕ → ℕ} {s p r : ℕ} → s < n → Up joined step s p r → p < n
  top_below l (stay e) = l
  top_below l (go (h, j) p e) = top_below (J.below (J.turn j)) p

  -- a way up gives its end a label that is no greater, if it has no closed step
  label_least : {N s : ℕ} {step : ℕ → ℕ → ℕ} {label : ℕ → ℕ} {q p r : ℕ}
      → Labels Ω N joined step s label → Up joined step q p r → r < Ω → label p ≤ label q + r
  label_least L (stay e) f = omega arith
  label_least L (go (h, j) p e) f = omega (arith, label_least L p (omega arith), L.least h j (omega arith))

  module _ {N s t d : ℕ} {from to : ℕ → ℕ}
      (F : Labels Ω N joined cost s from) (G : Labels Ω N joined (turned cost) t to) (D : Meets n N from to d) where
    -- the least sum of two labels, if there is one, is the cost of a walk
    pub reached : d < N → Walk Ω road s t d
    reached f =
        let (p, l, e) = D.made f in
        rw e (append
        (by_labels F (λ p w. Walk Ω road s p w) (stay refl) (λ q p w h j g k. append k (sound j g)) p (omega arith))
        (by_labels G (λ p w. Walk Ω road p t w) (stay refl) (λ q p w h j g k. rw add_comm (append (sound (J.turn j) g) k)) p (omega arith)))

    -- and no walk is cheaper
    pub shortest : {w : ℕ} → s < n → Walk Ω road s t w → w < Ω → d ≤ w
    shortest {w} l p f =
        let u = complete p in
        let b = u.bound in
        let rise = label_least F u.ascent (omega arith) in
        let fall = label_least G u.descent (omega arith) in
        omega (arith, D.least u.top (top_below l u.ascent), F.start, G.start)
