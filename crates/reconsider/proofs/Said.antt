-- What a list of answers says yes of once one answer is stored in it. Assumes nothing.
use Prim.Native.Nat.{ℕ, ◌<◌}
use mathlib.Core.Path.{◌≡◌, sym, ap, ◌∙◌, subst}
use mathlib.Core.Logic.{◌⊎◌, inl, inr, ◌≢◌}
use mathlib.Core.Bool.{Bool, true, false}
use mathlib.Core.List.{List}
use lib.Dec.{T}
use lib.ListN.{length, get_or, set, length-set}
use lib.Seq.{get_or-set_same, get_or-set_other}
use Rattle.theory.proofs.Words.{either, true_holds, same_or_not}
use Rattle.reconsider.specs.Marks.{says}

-- an answer that is no is not yes
pub says_no : (l : List Bool) (p : ℕ) → get_or l p false ≡ false → T (says l p) → ⊥
says_no l p e t = subst T e t

-- what stands there is all that matters
pub says_same : (l l' : List Bool) (q : ℕ) → get_or l' q false ≡ get_or l q false → T (says l q) → T (says l' q)
says_same l l' q e t = subst T (sym e) t

-- the list l with the answer b stored at place k
pub record Said (l : List Bool) (k : ℕ) (b : Bool) (l' : List Bool) : Type 0 where
  pub long : length l' ≡ length l
  pub here : get_or l' k false ≡ b
  pub off : (i : ℕ) → i ≢ k → get_or l' i false ≡ get_or l i false

pub said : (l l' : List Bool) (k : ℕ) (b : Bool) → l' ≡ set l k b → k < length l → Said l k b l'
said l l' k b e h =
    record {
      long = ap length e ∙ length-set l k b;
      here = ap (λ x. get_or x k false) e ∙ get_or-set_same l k b false h;
      off = λ i n. ap (λ x. get_or x i false) e ∙ get_or-set_other l k i b false n;
    }

module _ {l l' : List Bool} {k : ℕ} (S : Said l k true l') where
  -- where yes was stored it says yes
  pub said_here : T (says l' k)
  said_here = true_holds (says l' k) S.here

  -- it still says yes where it did
  pub said_still : (q : ℕ) → T (says l q) → T (says l' q)
  said_still q t = either (same_or_not q k) (λ d. subst (λ v. T (says l' v)) (sym d) said_here) (λ d. says_same l l' q (S.off q d) t)

  -- and nowhere else
  pub said_only : (q : ℕ) → T (says l' q) → (q ≡ k) ⊎ T (says l q)
  said_only q t = either (same_or_not q k) (λ d. inl d) (λ d. inr (says_same l' l q (sym (S.off q d)) t))
