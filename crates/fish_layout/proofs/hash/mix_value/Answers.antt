-- A whole number's bytes are those of its complement, and the rest is by what `mix` ensures.
use Rattle.std.proofs.Common.{rules, ◌≡◌, ap, ◌∙◌}
use Rattle.fish_layout.specs.Hash.{fnv1a_behind}
use Rattle.fish_layout.specs.Values.{value_bytes}
use Rattle.fish_layout.proofs.hash.mix_value.Goals as goal

pub returns-in-Int : goal.returns-in-Int
returns-in-Int c =
    let bytes : c.to_le_bytes.result ≡ value_bytes c.args.value.now = search rules in
    c.mix-in-Int.ensures ∙ ap (fnv1a_behind c.args.hash) bytes
