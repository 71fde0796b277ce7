-- `entries_good` meets its contract: the table's places and all beyond them are all entries.
use Rattle.map_test.proofs.Entries.{two_parts}
use Rattle.map_test.proofs.FormedMap.entries_good.Goals as goal

pub returns : goal.returns
returns c =
    two_parts _ _ c.places_good.result c.others_good.result c.args.self.formed c.requires
    c.places_good.ensures
    c.others_good.ensures
