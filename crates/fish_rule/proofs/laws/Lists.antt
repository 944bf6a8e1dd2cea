-- What crates above may cite of lists of facts, and of lists of lanes.
pub use Rattle.fish_rule.proofs.basics.Lanes.{of_lane_sound, off_lane_sound, without_complete, without_sound}
pub use Rattle.fish_rule.proofs.basics.Lists.{all_among, among_either, among_left, among_right, there_is}
