-- What crates above may cite of one moment: which entry stands at a number, and whose record it is.
pub use Rattle.fish_rule.proofs.basics.OneMoment.{before_mark, claimed, entry_once, entry_word, get_here, stored_above}
pub use Rattle.fish_rule.proofs.basics.OneMoment.{stored_by, stored_claimed, stored_line, stored_parts, there_is}
