-- `drive_piece` meets its contract: joined positions have an edge, and it is opened upward or downward. Assumes nothing.
use Rattle.std.proofs.Common.{sym, ◌∙◌, ap}
use Rattle.rules.specs.Lent.{lent_net, lent_graph, lent_costs}
use Rattle.theory.specs.Rows.{count}
use Rattle.lists.proofs.Found.{edge_at, edge_nowhere}
use Rattle.lists.proofs.Positions.{lower_e, not_lower_e}
use Rattle.roads.specs.Roads.{with_tails}
use Rattle.unpack.specs.Opening.{put, way_along}
use Rattle.drive.proofs.Ends.{Ends, upward, downward}
use Rattle.drive.proofs.drive_piece.Goals as goal
use Rattle.drive.proofs.drive_piece.Goals.{Joined-lt, then-lt, else-lt}

-- the piece leads upward or downward along an edge
ends : (c : Joined-lt)
    → Ends (count c.args.opener.now.graph.first.now) (lent_graph c.args.opener.now.graph) c.args.a.0 c.args.b.0 c.if-lt.d.0 c.if-lt.d.1.0 c.if-lt.d.2.0
ends c =
    let R = c.requires.0.lists.rows in
    elim c.if-lt.branch [
      | then-lt w ↦ rw w.d-is (upward R c.args.a.0 c.args.b.0 c.requires.1 (lower_e c.args.a.0 c.args.b.0 w.if-lt.ensures))
      | else-lt w ↦ rw w.d-is (downward R c.args.a.0 c.args.b.0 c.requires.1 (not_lower_e c.args.a.0 c.args.b.0 w.if-lt.ensures))
    ]

pub find_edge-requires : goal.find_edge-requires
find_edge-requires c =
    let e = ends (goal.at.find_edge-requires c).Joined-lt in (c.requires.0.lists.rows, e.low_in)

pub returns-in_default : goal.returns-in_default
returns-in_default c =
    let e = ends (goal.at.returns-in_default c).Joined-lt in
    absurd (edge_nowhere c.requires.0.lists.rows _ _ e.rises (sym c.find_edge.ensures ∙ c.in_default.is) e.joined)

pub open-requires : goal.open-requires
open-requires c =
    let e = ends (goal.at.open-requires c).Joined-lt in
    (c.requires.0, e.low_in, (edge_at c.requires.0.lists.rows _ _ _ e.low_in (sym c.find_edge.ensures ∙ c.in-Some.is)).0)

pub returns : goal.returns
returns c tails B =
    let e = ends (goal.at.returns c).Joined-lt in
    let (r, there) = edge_at c.requires.0.lists.rows _ _ _ e.low_in (sym c.find_edge.ensures ∙ c.in-Some.is) in
    rw there at (c.open.ensures tails B)
    ∙ ap (λ way. put way c.args.at c.args.route.now) (e.same (way_along (with_tails (lent_net c.args.opener.now.net) tails) (lent_graph c.args.opener.now.graph) (lent_costs c.args.opener.now.costs)))
