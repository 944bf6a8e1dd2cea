-- Where an index is complete: what a pass knows of a definition and of a range of numbers before it goes down a chain.
use Rattle.std.specs.Prelude.{ℕ}
use Rattle.fish_layout.specs.Hash.{bucket_in, key_hash_of}
use Rattle.fish_rule.specs.declared.view.View.{View}
use Rattle.fish_value.specs.declared.value.Value.{Value}

-- the bucket in which the entries of a definition's value are
abbrev pub bucket_of_value : View → ℕ → Value → ℕ
bucket_of_value v id value = bucket_in (key_hash_of id value) v.about.buckets
