-- The ascending entries of a list, put into a set one behind the other. Assumes nothing.
use Prim.Native.Nat.{ℕ, suc, ◌+◌, ◌≤◌, ◌<◌}
use mathlib.Core.Path.{◌≡◌, refl, sym, ap, ◌∙◌, subst}
use mathlib.Core.Logic.{◌⊎◌, inr}
use mathlib.Core.Bool.{Bool}
use mathlib.Core.List.{List, ◌∷◌}
use native.Mathlib.Numerals.{add-one}
use lib.Dec.{T}
use lib.ListN.{length, get_or, drop}
use lib.Seq.{drop-cons}
use Rattle.std.proofs.lemmas.List.{drop_all}
use Rattle.rules.specs.Hierarchy.{ascends}
use Rattle.theory.proofs.GraphRows.{ascends_e}
use Rattle.gather.specs.NextMembers.{also, also_all, Holds, PutIn, AllPutIn}
use Rattle.gather.proofs.Members.{also_r, all_more, all_none}

-- the entries before place k have been put in, behind `base`; `last` is where the next goes on
pub record Merging (entries : List ℕ) (n base k last : ℕ) (before after : List ℕ) : Type 0 where
  pub ascend : T (ascends (suc last) n (drop k entries))
  pub holds : (S : ℕ → Bool) (p : ℕ) → Holds S n p before → (base ≡ p) ⊎ T (S base)
      → (R : ℕ → Bool) × Holds R n p after × ((last ≡ p) ⊎ T (R last)) × (also_all entries S ≡ also_all (drop k entries) R)

-- none yet
pub merging_start : {entries : List ℕ} {n p : ℕ} (a : List ℕ) → T (ascends (suc p) n entries) → Merging entries n p 0 p a a
merging_start a t =
    record { ascend = t; holds = λ S q h w. (S, h, w, refl) }

module _ {entries : List ℕ} {n p k last : ℕ} {a₀ a : List ℕ} (m : Merging entries n p k last a₀ a) where
  module _ (more : k < length entries) where
    -- the entry at place k, and those behind it
    abbrev here : drop k entries ≡ get_or entries k 0 ∷ drop (suc k) entries
    here = drop-cons entries k 0 more

    -- the next entry stands above the last that was put in, and below n
    pub merging_next : (last < get_or entries k 0) × (get_or entries k 0 < n)
    merging_next =
        let (l, h, t) = ascends_e (suc last) n (get_or entries k 0) (drop (suc k) entries) (rw here at m.ascend) in
        (l, h)

    -- once it is put in, the rest goes on from it
    pub merging_more : (b : List ℕ) → n ≤ 4096 → PutIn last (get_or entries k 0) a b → Merging entries n p (k + 1) (get_or entries k 0) a₀ b
    merging_more b few r =
        let (l, h, t) = ascends_e (suc last) n (get_or entries k 0) (drop (suc k) entries) (rw here at m.ascend) in
        rw (add-one k)
        (record {
          ascend = t;
          holds = λ S q g v.
              let (R, i, w, j) = m.holds S q g v in (
                also R (get_or entries k 0),
                r.holds R n q i few h w,
                inr (also_r R (get_or entries k 0) (get_or entries k 0) refl),
                j ∙ ap (λ l. also_all l R) here ∙ all_more (get_or entries k 0) (drop (suc k) entries) R,
              );
        })

  -- all of them
  pub merging_end : length entries ≤ k → AllPutIn entries n p a₀ a
  merging_end l =
      record {
        holds = λ S q g v.
            let (R, i, w, j) = m.holds S q g v in
            subst (λ Q. Holds Q n q a) (sym (j ∙ ap (λ l. also_all l R) (drop_all k entries l) ∙ all_none R)) i;
      }

  -- the rest put in behind the last
  pub merging_rest : (b : List ℕ) → AllPutIn (drop k entries) n last a b → AllPutIn entries n p a₀ b
  merging_rest b r =
      record {
        holds = λ S q g v.
            let (R, i, w, j) = m.holds S q g v in
            subst (λ Q. Holds Q n q b) (sym j) (r.holds R q i w);
      }
