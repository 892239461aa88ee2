-- One row more: what stands in the lists once the rows below p are written, and how the row of p is added. Assumes nothing.
use Prim.Native.Nat.{ℕ, suc, ◌+◌, ◌≤◌, ◌<◌}
use mathlib.Core.Path.{◌≡◌, refl, sym, ap, ◌∙◌}
use mathlib.Core.Logic.{inl}
use mathlib.Core.Bool.{Bool}
use mathlib.Core.List.{List, ◌++◌}
use native.Mathlib.Omega.{arith}
use native.Mathlib.Numerals.{add-one}
use lib.ListN.{length, get_or, take, drop, set, length-set}
use lib.Seq.{take-take, length-take-le, get_or-set_same, get_or-set_other}
use Rattle.rules.specs.Net.{Net, size}
use Rattle.rules.specs.Graph.{Graph, graph, row, rows_below, parent_of}
use Rattle.rules.specs.Hierarchy.{row_at, row_ascends}
use Rattle.theory.specs.Threads.{Threaded}
use Rattle.theory.proofs.Words.{either, same_or_not}
use Rattle.theory.proofs.Built.{rows_grow}
use Rattle.theory.proofs.RowsBelow.{rows_none, rows_more, rows_small, row_behind}
use Rattle.theory.proofs.GraphRows.{row_ascends_lem}
use Rattle.theory.proofs.Threads.{threads_same}
use Rattle.gather.specs.NextMembers.{members, Holds}
use Rattle.gather.specs.Arcs.{Arcs, arcs_of}
use Rattle.gather.specs.Gathered.{parent_in, RowsIn, Gatherable, gathered}
use Rattle.gather.proofs.Members.{first_member}
use Rattle.gather.proofs.Gathered.{row_made}
use Rattle.std.specs.Prelude.{Option, Some, None}
use Rattle.gather.specs.declared.ArcThreads.{ArcThreads}
use Rattle.gather.specs.declared.ChildThreads.{ChildThreads}
use Rattle.graph.specs.Grown.{Writes, roads, Grown, Ready}

-- ---- the start

-- no row is written yet
pub grown_start : (N : Net) (G : Graph) (children : ChildThreads) → length G.first ≡ suc (size N)
    → Threaded (parent_of N) (size N) 4096 0 children.at children.next → Grown N (graph (set G.first 0 0) G.heads) children 0
grown_start N G children long none =
    record {
      within = omega arith;
      first_long = length-set G.first 0 0 ∙ long;
      room = rw (rows_none N) (omega arith);
      written = rw (rows_none N) refl;
      starts = λ k l.
          let e : k ≡ 0 = omega arith in
          rw e (get_or-set_same G.first 0 0 0 (omega arith) ∙ sym (ap length (rows_none N)));
      threads = none;
    }

-- ---- the rows below p, read back

module _ {N : Net} {G : Graph} {children : ChildThreads} {p : ℕ} (g : Grown N G children p) where
  -- the row that the lists have for c is the row of c
  row_in : (c : ℕ) → c < p → row_at G c ≡ row N c
  row_in c l =
      let end = length (rows_below N (suc c)) in
      let front : take end G.heads ≡ take end (rows_below N p) =
      sym (take-take end (length (rows_below N p)) G.heads (rows_grow N (suc c) p l)) ∙ ap (take end) g.written in
      rw (g.starts c (omega arith), g.starts (suc c) l)
      (ap (drop (length (rows_below N c))) front ∙ row_behind N p c l)

  -- the rows below p are in place
  rows_in : size N ≤ 4096 → RowsIn G (size N) p
  unfolding row_ascends
  rows_in few =
      record {
        few = few;
        first_long = g.first_long;
        within = λ c l. (
          omega (arith, g.starts c (omega arith), g.starts (suc c) l, rows_grow N c (suc c) (omega arith)),
          omega (arith, g.starts (suc c) l, rows_grow N (suc c) p l, g.room),
        );
        ascend = λ c l. rw (row_in c l) (row_ascends_lem N c);
      }

  -- and their positions are threaded by the parents that the lists have
  children_in : Threaded (parent_in G (size N)) (size N) 4096 p children.at children.next
  unfolding parent_of
  children_in =
      threads_same (parent_of N) (size N) 4096 p children.at children.next g.threads (parent_in G (size N))
      (λ c l. ap (λ r. get_or r 0 (size N)) (sym (row_in c l)))

-- ---- the row of p

module _ {M : ℕ} {order : List ℕ} {G : Graph} {arcs : ArcThreads M} {children : ChildThreads} {p : ℕ} (r : Ready order G arcs children p) where
  -- the roads, and their arcs by the positions of their ends
  abbrev N : Net
  N = roads r.laid

  abbrev R : Arcs
  R = arcs_of r.laid.tails r.laid.heads r.laid.rank

  -- what the row is made of is at hand
  pub gatherable : Gatherable R G arcs children (length order) p
  gatherable =
      record {
        inside = r.inside;
        arcs_threaded = r.laid.threads;
        rows = rows_in r.grown r.laid.few;
        children_threaded = children_in r.grown;
      }

  -- what that brings
  abbrev brought : ℕ → Bool
  brought = gathered R G (length order) p

  -- is the row of p
  brought_row : members brought (length order) p ≡ row N p
  brought_row =
      row_made N r.laid.rank r.laid.ranks r.laid.ends_in p r.inside (row_at G)
      (row_in r.grown)

  -- what stands at p of an array that holds it is the parent of p
  pub parent_at : (b : List ℕ) → Holds brought (length order) p b → parent_of N p ≡ get_or b p 0
  unfolding parent_of
  parent_at b held =
      ap (λ l. get_or l 0 (length order)) (sym brought_row)
      ∙ first_member brought (length order) p (get_or b p 0) (held.next p (inl refl))

  module _ (at : ℕ) (here : at ≡ get_or G.first p 0) where
    -- the next free place comes after the rows below p
    at_is : at ≡ length (rows_below N p)
    at_is = here ∙ r.grown.starts p (omega arith)

    -- it is a place of the list, or its end
    pub at_room : at ≤ length G.heads
    at_room = omega (arith, at_is, r.grown.room)

    -- from there on the row goes behind the rows below p
    rows_next : take at G.heads ++ members brought (length order) p ≡ rows_below N (suc p)
    rows_next = rw (at_is, r.grown.written, brought_row) (sym (rows_more N p))

    module _ (heads : List ℕ) (room : Option ℕ) (w : Writes brought (length order) p at G.heads heads room) where
      -- there is not room for it
      pub grows_full : room ≡ None → length G.heads < length (rows_below N (suc p))
      grows_full told =
          let full : Writes brought (length order) p at G.heads heads None = rw told at w in
          omega (arith, full, ap length rows_next)

      module _ (e : ℕ) (told : room ≡ Some e) where
        -- it is written up to the place told
        next : Writes brought (length order) p at G.heads heads (Some e)
        next = rw told at w

        -- where the rows below its successor end
        end_is : e ≡ length (rows_below N (suc p))
        end_is = sym (length-take-le e heads next.0) ∙ ap length (next.1 ∙ rows_next)

        -- which is a small number
        pub end_small : e ≤ 16777216
        end_small = omega (arith, end_is, rows_small N r.laid.few (suc p), r.inside, r.laid.few)

        -- one row more is written
        pub grows_next : (cs : ChildThreads) → Threaded (parent_of N) (size N) 4096 (p + 1) cs.at cs.next → Grown N (graph (set G.first (p + 1) e) heads) cs (suc p)
        grows_next cs t =
            record {
              within = r.inside;
              first_long = length-set G.first (p + 1) e ∙ r.grown.first_long;
              room = omega (arith, end_is, next.0);
              written = rw (← end_is) (next.1 ∙ rows_next);
              starts = λ k l.
                  either (same_or_not k (p + 1))
                  (λ i.
                  let h : suc p ≡ k = omega arith in
                  ap (λ j. get_or (set G.first (p + 1) e) j 0) i
                  ∙ get_or-set_same G.first (p + 1) e 0 (omega (arith, r.grown.first_long, r.inside))
                  ∙ end_is
                  ∙ ap (λ j. length (rows_below N j)) h)
                  (λ d. get_or-set_other G.first (p + 1) k e 0 d ∙ r.grown.starts k (omega arith));
              threads = rw (← add-one p) t;
            }
