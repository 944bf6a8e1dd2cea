-- Its record's words are those of the page.
use Rattle.fish_cold.proofs.Carried.{carried_key}
use Rattle.fish_cold.proofs.law.keys_are_carried.Goals as goal

pub returns : goal.returns
returns c content k cold h b place n p j key at = carried_key content k cold h b place n p j key at
