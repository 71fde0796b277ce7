-- Document 01, "Numbers given back": the number of each refusal, under the name that it has in C. In which order they come is said by the
-- chain of each call.
use Rattle.std.specs.Prelude.{ℕ, Result, Ok, Err}
use Rattle.base_numbers.specs.declared.Refusal.{Refusal}
use Rattle.base_numbers.specs.declared.Refusal.TheVariants.{BadSession, BadMapForm, BadMapEntry, BadBank, BadSamples, ShortRecords, BadOrder, BadCount, BadStart, BadSingle, ShortOut, BadTop, FlagLost, BadList, LongSetup, BadWords, BadChips, BadProduct, BadRegisters}

-- nothing is refused
abbrev pub done : ℕ
done = 0

-- the session is not sound, or its bytes are no session
abbrev pub bad_session : ℕ
bad_session = 1

-- the form of the map is wrong
abbrev pub bad_map_form : ℕ
bad_map_form = 2

-- an entry of the map breaks a rule
abbrev pub bad_map_entry : ℕ
bad_map_entry = 3

-- a bank is not n bytes
abbrev pub bad_bank : ℕ
bad_bank = 4

-- there are too many samples, or one with a spare bit
abbrev pub bad_samples : ℕ
bad_samples = 5

-- the records, or the list of what mending alters, need more bytes than are lent
abbrev pub short_records : ℕ
short_records = 6

-- the direction or the settings number of an order is too high
abbrev pub bad_order : ℕ
bad_order = 7

-- the count of an order is out of range, or its data not of that length
abbrev pub bad_count : ℕ
bad_count = 8

-- an order starts above 0x7FFF; to an older chip: its run leaves 0 to the top
abbrev pub bad_start : ℕ
bad_start = 9

-- a write in single instruction has 0x0000 or 0x0001 anywhere but last
abbrev pub bad_single : ℕ
bad_single = 10

-- the outgoing buffer is too short
abbrev pub short_out : ℕ
short_out = 11

-- the top of an older chip is out of range, or not n less 1
abbrev pub bad_top : ℕ
bad_top = 12

-- a map with the flag has no version 1
abbrev pub flag_lost : ℕ
flag_lost = 13

-- a list ends inside an order, or has one of another form, or too many
abbrev pub bad_list : ℕ
bad_list = 14

-- the orders of a list have too many samples
abbrev pub long_setup : ℕ
long_setup = 15

-- there are too many words of touched registers, or for a reader too few
abbrev pub bad_words : ℕ
bad_words = 16

-- there is no chip or there are too many, or their ranges are wrong
abbrev pub bad_chips : ℕ
bad_chips = 17

-- the product number of a map to be mended is 0x0000 or 0xFFFF
abbrev pub bad_product : ℕ
bad_product = 18

-- the listed registers are none, too many, not strictly rising, or some that may not be listed
abbrev pub bad_registers : ℕ
bad_registers = 19

-- the number of a refusal
abbrev pub refusal_number : Refusal → ℕ
refusal_number BadSession = bad_session
refusal_number BadMapForm = bad_map_form
refusal_number BadMapEntry = bad_map_entry
refusal_number BadBank = bad_bank
refusal_number BadSamples = bad_samples
refusal_number ShortRecords = short_records
refusal_number BadOrder = bad_order
refusal_number BadCount = bad_count
refusal_number BadStart = bad_start
refusal_number BadSingle = bad_single
refusal_number ShortOut = short_out
refusal_number BadTop = bad_top
refusal_number FlagLost = flag_lost
refusal_number BadList = bad_list
refusal_number LongSetup = long_setup
refusal_number BadWords = bad_words
refusal_number BadChips = bad_chips
refusal_number BadProduct = bad_product
refusal_number BadRegisters = bad_registers

-- the number that a call gives back
abbrev pub number_of : {A : Type 0} → Result A Refusal → ℕ
number_of (Ok _) = done
number_of (Err refusal) = refusal_number refusal

-- the amount that a call gives back, how many of what it put or found: none where it is refused
abbrev pub amount_of : Result ℕ Refusal → ℕ
amount_of (Ok amount) = amount
amount_of (Err _) = 0
