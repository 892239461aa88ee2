-- All rows: what build's checks give, and what is left in the lists at the end. Assumes nothing.
use Prim.Native.Nat.{ℕ, suc, ◌+◌, ◌≤◌, ◌<◌}
use mathlib.Core.Path.{◌≡◌, refl, sym, ap, ◌∙◌, subst}
use mathlib.Core.List.{List}
use native.Mathlib.Omega.{arith}
use native.Mathlib.Numerals.{add-one}
use lib.ListN.{length, get_or}
use lib.Seq.{length-take-le}
use borrow.Author.Tests.{le-leb, lt-leb}
use Rattle.rules.specs.Words.{tabulate}
use Rattle.rules.specs.Net.{Net, size, rank_list}
use Rattle.rules.specs.Graph.{Graph, graph, rows_below, first_list, heads_list, edge_count}
use Rattle.theory.specs.Orders.{Inverse}
use Rattle.theory.specs.Accepted.{Buildable}
use Rattle.theory.proofs.Words.{is_tabulate}
use Rattle.theory.proofs.Orders.{inverse_list}
use Rattle.theory.proofs.Built.{rows_within}
use Rattle.lists.specs.Lent.{filled}
use Rattle.lists.proofs.Filled.{filled_whole}
use Rattle.gather.specs.Arcs.{arcs_of, ArcLists, ThreadsOf}
use Rattle.std.specs.Prelude.{Option, Some, None}
use Rattle.gather.specs.declared.ArcThreads.{ArcThreads}
use Rattle.gather.specs.declared.ChildThreads.{ChildThreads}
use Rattle.graph.specs.Grown.{Laid, Grown, Grows, Fills}
use Rattle.graph.specs.Contracted.{left, contracted}

-- ---- what build's checks give

module _ {tails heads order rank first : List ℕ} (B : Buildable tails heads order rank first) (ranked : rank ≡ rank_list order) where
  -- the rank list inverts the order
  pub inverts : Inverse order rank
  inverts = subst (λ r. Inverse order r) (sym ranked) (inverse_list B.seats)

  -- the positions of the arcs' ends can be read
  pub arc_lists : ArcLists tails heads rank (length rank)
  arc_lists =
      rw B.rank_long
      (record { few = B.few; heads_long = B.heads_long; fit = B.fit; rank_long = B.rank_long; ends_in = B.ends_in; positions = inverts.position })

  -- and once the arcs are threaded the rows can be written
  abbrev pub arcs_laid : {M : ℕ} {arcs : ArcThreads M} → ThreadsOf (arcs_of tails heads rank) (length rank) arcs → Laid order arcs
  arcs_laid {M} {arcs} t =
      record {
        tails = tails;
        heads = heads;
        rank = rank;
        few = B.few;
        ranks = inverts;
        ends_in = B.ends_in;
        threads = subst (λ n. ThreadsOf (arcs_of tails heads rank) n arcs) B.rank_long t;
      }

-- ---- the end

module _ (N : Net) where
  module _ (G : Graph) (children : ChildThreads) (p room : ℕ) (r : Option ℕ) (g : Grows N G children p room r) where
    -- one row more, if it is told so
    pub grown_more : (e : ℕ) → r ≡ Some e → Grown N G children (p + 1)
    grown_more e told =
        let next : Grows N G children p room (Some e) = rw told at g in
        rw (add-one p) next

    -- the rows below some position do not fit, nor do all
    pub fills_full : r ≡ None → p < size N → Fills N G room None
    fills_full told l =
        let full : Grows N G children p room None = rw told at g in
        omega (arith, full, rows_within N (suc p) l)

  -- all rows are written
  pub fills_next : (G : Graph) (children : ChildThreads) (p at room : ℕ) → Grown N G children p → size N ≤ p → at ≡ get_or G.first p 0 → Fills N G room (Some at)
  unfolding heads_list first_list
  fills_next G children p at room g h here =
      let e : p ≡ size N = omega (arith, g.within) in
      let end : at ≡ length (rows_below N p) = here ∙ g.starts p (omega arith) in (
        omega (arith, end, g.room),
        rw end g.written ∙ ap (rows_below N) e,
        is_tabulate (λ k. length (rows_below N k)) G.first (λ k l. g.starts k (omega (arith, g.first_long)))
            ∙ ap (λ m. tabulate (λ k. length (rows_below N k)) 0 m) g.first_long,
      )

  module _ (G : Graph) (room : ℕ) (long : length G.heads ≡ room) (r : Option ℕ) (f : Fills N G room r) where
    -- the place told is a place of the list
    pub fills_room : (e : ℕ) → r ≡ Some e → e ≤ length G.heads
    fills_room e told = let next : Fills N G room (Some e) = rw told at f in next.0

    -- and what is left in the lists, with noughts behind the rows, is what contraction leaves
    pub contracted_next : (e : ℕ) → r ≡ Some e → (heads : List ℕ) → heads ≡ filled G.heads e 0 → left (Some e) (graph G.first heads) ≡ contracted N room
    unfolding contracted edge_count
    contracted_next e told heads s =
        let next : Fills N G room (Some e) = rw told at f in
        let c : e ≡ edge_count N = sym (length-take-le e G.heads next.0) ∙ ap length next.1 in
        rw (le-leb (edge_count N) room (omega (arith, next.0)), s, next.1, next.2, long, c) refl

    -- noughts alone are what it leaves where the rows do not fit
    pub contracted_full : r ≡ None → length G.first ≡ suc (size N) → (first heads : List ℕ) → first ≡ filled G.first 0 0 → heads ≡ filled G.heads 0 0
        → left None (graph first heads) ≡ contracted N room
    unfolding contracted
    contracted_full told many first heads a b =
        let full : Fills N G room None = rw told at f in
        rw (lt-leb (edge_count N) room full, a, b, filled_whole G.first 0, filled_whole G.heads 0, many, long) refl
