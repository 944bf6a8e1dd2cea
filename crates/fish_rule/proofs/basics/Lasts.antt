-- What each step owes: the world after it meets the rule, and what lasts has lasted.
use Rattle.fish_rule.proofs.basics.Context.{Final, Key, Rule, World}

-- the world after a step meets the rule, and what lasts has lasted
abbrev pub Lasts : {k : Key} {w : World} (r : Rule k w) → World → Type 0
Lasts {k} {w} r u = (s : Rule k u) × Final k r.start s.start r.lane_of s.lane_of w u

-- the same where no region moves and none changes hands
abbrev pub Kept : {k : Key} {w : World} (r : Rule k w) → World → Type 0
Kept {k} {w} r u = Final k r.start r.start r.lane_of r.lane_of w u
