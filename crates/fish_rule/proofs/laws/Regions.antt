-- What crates above may cite of regions: their words, that they follow one another, and what was found of them.
pub use Rattle.fish_rule.proofs.basics.Bodies.{code_once, kind-inside, mark-past, published}
pub use Rattle.fish_rule.proofs.basics.Flights.{one_flight}
pub use Rattle.fish_rule.proofs.basics.FoundRegions.{lines_found, region_found, word_known}
pub use Rattle.fish_rule.proofs.basics.Regions.{one_region, starts_rise}
