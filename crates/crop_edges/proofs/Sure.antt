-- The contract decides: any two results that meet it are equal, for every input. Assumes nothing.
use Rattle.std.proofs.Common.{sym, ◌∙◌}
use Rattle.lists.proofs.Sure.{DecidesResult}
use Rattle.crop_edges.proofs.read_edge.Kinds as read-edge
use Rattle.crop_edges.proofs.read_edge.Reads as read-edge-reads

pub read_edge_decides : DecidesResult read-edge.ps read-edge.r read-edge-reads.Post
read_edge_decides κs a x y s t p q = p ∙ sym q
