-- Document 02, Ask 10, in steps: the chips of a list by value, up to eight, copied one by one. The code judges the list as it is lent, and
-- promises the number of such a copy too.
use Rattle.std.specs.Prelude.{ℕ, ◌+◌, cond, List, [], ◌∷◌, ltb, leb, set, take, replicate}
use Rattle.base_numbers.specs.Numbers.{bad_chips}
use Rattle.bus_session_bytes.specs.Layout.{session_size}
use Rattle.several_chips.specs.declared.Member.{Member}
use Rattle.several_chips.specs.Numbers.{several_number}

-- how many chips there are, 9 for more than eight; and eight places for them
pub record Group : Type 0 where
  pub count : ℕ
  pub members : List Member

-- what stands where there is no chip
abbrev pub absent : Member
absent = record {
  session = replicate session_size 0;
  contended = 0;
  active_start = 0;
  active_length = 0;
  buffer_start = 0;
  buffer_length = 0;
}

-- a group of no chips
abbrev pub no_group : Group
no_group = record { count = 0; members = replicate 8 absent }

-- one chip more; beyond eight only the count goes on, to nine
unfoldable pub with_member : Group → Member → Group
with_member g w = cond (ltb g.count 8) (record { count = g.count + 1; members = set g.members g.count w }) (record { count = 9; members = g.members })

-- the chips of a list, one after the other
unfoldable pub gathered : Group → List Member → Group
gathered g [] = g
gathered g (w ∷ ws) = gathered (with_member g w) ws

-- the chips that a group has
abbrev pub chips_of : Group → List Member
chips_of g = take g.count g.members

-- the number of a call by the group of its chips: more than eight are refused with 17
unfoldable pub group_number : List ℕ → Group → ℕ → List ℕ → ℕ → ℕ
group_number m g size bytes room = cond (leb 9 g.count) bad_chips (several_number m (chips_of g) size bytes room)
