-- What is open after all nodes is what is open after those that are left, from here.
use Rattle.std.proofs.Common.{◌≡◌, map, drop}
use Rattle.json.specs.Tape.{node_token}
use Rattle.fish_json.specs.within.Tape.{open_after}
use Rattle.fish_json.proofs.nodes.fits.Given as goal

abbrev pub invariant-loop-node : goal.invariant-loop-node
invariant-loop-node l =
    open_after 0 (map node_token l.nodes) ≡ open_after l.depth (map node_token (drop l.node-index l.nodes))
