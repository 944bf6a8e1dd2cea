-- The keys so far are the first of a record's.
use Rattle.std.proofs.Common.{◌≡◌, length, take}
use Rattle.fish_layout.specs.Body.{IsBody, values_of}
use Rattle.fish_layout.specs.declared.parts.BodyParts.{BodyParts}
use Rattle.fish_layout.proofs.keys.read_keys.Given as goal

abbrev pub invariant-loop-position : goal.invariant-loop-position
invariant-loop-position l =
    record {
      keys : (p : BodyParts) → IsBody p l.words → l.count ≡ length p.keys → l.values ≡ values_of p.keys →
          l.keys ≡ take l.position p.keys;
      count : length l.keys ≡ l.position;
    }
