-- What a lane says after what it said before.
use Rattle.std.proofs.Common.{◌≡◌, List, [], ◌∷◌, ◌++◌, Bool, true, false, ap}
use Rattle.fish_report.specs.declared.item.Item.{Item}
use Rattle.fish_run.specs.Joins.{first_joined, is_part, part_after, said_after}

-- an item of a file that may go on takes over the next one
pub said_part : (fresh : Bool) (front : List Item) (x : Item) (bound items : List Item) → is_part x ≡ true
    → said_after fresh true (front ++ x ∷ []) bound items ≡ front ++ (bound ++ first_joined fresh x items)
said_part fresh [] x bound items is = ap (λ (z : Bool). part_after z fresh x bound items) is
said_part fresh (y ∷ []) x bound items is = ap (λ (z : List Item). y ∷ z) (said_part fresh [] x bound items is)
said_part fresh (y ∷ z ∷ front) x bound items is = ap (λ (l : List Item). y ∷ l) (said_part fresh (z ∷ front) x bound items is)

-- and any other stays
pub said_other : (fresh : Bool) (front : List Item) (x : Item) (bound items : List Item) → is_part x ≡ false
    → said_after fresh true (front ++ x ∷ []) bound items ≡ (front ++ x ∷ []) ++ (bound ++ items)
said_other fresh [] x bound items is = ap (λ (z : Bool). part_after z fresh x bound items) is
said_other fresh (y ∷ []) x bound items is = ap (λ (z : List Item). y ∷ z) (said_other fresh [] x bound items is)
said_other fresh (y ∷ z ∷ front) x bound items is = ap (λ (l : List Item). y ∷ l) (said_other fresh (z ∷ front) x bound items is)
