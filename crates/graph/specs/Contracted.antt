-- What contraction leaves: the reply and the two lent lists. Assumes nothing.
use Rattle.std.specs.Prelude.{ℕ, suc, ◌-◌, cond, ◌++◌, leb, replicate, Option, Some, None}
use Rattle.rules.specs.Net.{Net, size}
use Rattle.rules.specs.Graph.{Graph, graph, first_list, heads_list, edge_count}

-- the reply, which is none where the room is full, with what the lists of the rows then hold
pub record Left : Type 0 where
  pub reply : Option ℕ
  pub rows : Graph

abbrev pub left : (r : Option ℕ) (G : Graph) → Left
left r G = record { reply = r; rows = G }

-- "Places of heads past E become 0"; where heads has fewer than E places, first and heads are all 0
unfoldable pub contracted : (N : Net) (room : ℕ) → Left
unfolding edge_count first_list heads_list
contracted N room =
    cond (leb (edge_count N) room)
    (left (Some (edge_count N)) (graph (first_list N) (heads_list N ++ replicate (room - edge_count N) 0)))
    (left None (graph (replicate (suc (size N)) 0) (replicate room 0)))
