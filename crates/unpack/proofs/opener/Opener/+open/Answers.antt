-- `open` meets its contract. Assumes nothing.
use Rattle.std.proofs.Common.{rules, ap, ◌∙◌, get_or, Some, Err}
use Rattle.std.proofs.lemmas.Result.{err_from_is_err_and}
use Rattle.unpack.specs.Opening.{ran}
use Rattle.unpack.proofs.Put.{put_one_misfit}
use Rattle.unpack.proofs.WayAlong.{piece_edge, along_costs, met_along, by_first, by_both}
use Rattle.unpack.proofs.opener.Opener.+open.Goals as goal

pub offset_bounds-self-k : goal.offset_bounds-self-k
offset_bounds-self-k t c = let e = piece_edge c.requires.0 c.requires.1 c.requires.2 in search (rules, e.heads_in)

pub bounds-self-k : goal.bounds-self-k
bounds-self-k t c = let e = piece_edge c.requires.0 c.requires.1 c.requires.2 in e.heads_in

pub offset_bounds-along-k : goal.offset_bounds-along-k
offset_bounds-along-k t c = let e = piece_edge c.requires.0 c.requires.1 c.requires.2 in search (rules, e.heads_in)

-- the place is within either list, so that the costs of the wrong direction are refused where they are asked for
pub bounds-along-k : goal.bounds-along-k
bounds-along-k t c =
    let e = piece_edge c.requires.0 c.requires.1 c.requires.2 in
    let (l, w) = along_costs c.args.d e in
    rw c.along.ensures (search (rules, l, e.up_in, e.down_in))

pub choose_along-requires : goal.choose_along-requires
choose_along-requires t c =
    let e = piece_edge c.requires.0 c.requires.1 c.requires.2 in
    let (l, w) = along_costs c.args.d e in
    (c.requires.0, c.requires.0.lists.rows.above _ _ c.requires.1 c.requires.2, e.joined, ap (λ list. get_or list c.args.k 0) c.along.ensures ∙ w)

-- a first part that stops, an arc, both parts, neither
pub returns-in_err-free-in-Some-Over : goal.returns-in_err-free-in-Some-Over
returns-in_err-free-in-Some-Over t c tails B =
    let is = c.in-Some-Over.is ∙ ap Some c.in-Some-Over.field-0-is in
    let (why, e, f) = err_from_is_err_and c.from_residual.result c.from_residual.ensures.1 in
    ap (λ answer. ran answer c.open.new.route) (e ∙ ap Err f)
    ∙ by_first c.requires.0.lists.rows _ _ _ _ _ (c.choose_along.ensures.chosen tails B) is _ _ (c.open.ensures tails B) c.in_err-free-in-Some-Over.was

pub returns-in-Some-Arc : goal.returns-in-Some-Arc
returns-in-Some-Arc t c tails B =
    c.write_arc.ensures
    ∙ met_along c.requires.0.lists.rows _ _ _ _ _ (c.choose_along.ensures.chosen tails B) (c.in-Some-Arc.is ∙ ap Some c.in-Some-Arc.field-0-is) _ _

pub returns-in_ok-free-in-Some-Over : goal.returns-in_ok-free-in-Some-Over
returns-in_ok-free-in-Some-Over t c tails B =
    by_both c.requires.0.lists.rows _ _ _ _ _ (c.choose_along.ensures.chosen tails B) (c.in-Some-Over.is ∙ ap Some c.in-Some-Over.field-0-is) _ _ (c.open.ensures tails B)
    c.in_ok-free-in-Some-Over.was (c.open-in-Some-Over.ensures tails B)

pub returns-in-None : goal.returns-in-None
returns-in-None t c tails B =
    put_one_misfit _ _ ∙ met_along c.requires.0.lists.rows _ _ _ _ _ (c.choose_along.ensures.chosen tails B) c.in-None.is _ _
