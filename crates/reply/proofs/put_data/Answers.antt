-- `put_data` meets its contract: what 7C holds has room, and each layout's data is the definition's.
use Rattle.std.proofs.Common.{arith, ◌+◌, ◌*◌, ◌≤◌, length}
use Rattle.strings.specs.Bytes.{longest}
use Rattle.names.specs.Names.{places}
use borrow.Author.Rules.{rules}
use Rattle.reply.proofs.Data.{one-short, two-short, three-short, under-room, name-short, nest-fits, no-data, flat-data, nest-data, one-is, name-is, names-are, pair-is}
use Rattle.reply.proofs.put_data.Goals as goal

pub put_nest-requires : goal.put_nest-requires
put_nest-requires c = let s = one-short c.in-Nest.tag c.args.first.now c.requires.short in record { short = omega arith; fits = nest-fits _ c.args.sheet.now c.requires.start s }

pub put_nest-requires-in-None : goal.put_nest-requires-in-None
put_nest-requires-in-None c =
    let s = two-short 0x86 0x87 c.args.first.now c.bytes.result.now (omega (arith, name-short c.args.listed.first _ c.bytes.ensures (search rules))) in
    record { short = omega arith; fits = nest-fits _ c.args.sheet.now c.requires.start s }

pub put_nest-requires-in-Some : goal.put_nest-requires-in-Some
put_nest-requires-in-Some c =
    let n = name-short c.args.listed.first _ c.bytes.ensures (search rules) in
    let m = name-short c.in-Some.name _ c.bytes-in-Some.ensures (search rules) in
    let k : length c.args.first.now + length c.bytes.result.now + length c.bytes-in-Some.result.now ≤ longest + 2 * places = omega arith in
    record { short = under-room _ (three-short _ _ _ _ _ _ k); fits = nest-fits _ c.args.sheet.now c.requires.start (three-short _ _ _ _ _ _ k) }

pub put_nest-requires-in-Pair : goal.put_nest-requires-in-Pair
put_nest-requires-in-Pair c =
    let s = two-short 0x81 0x82 c.split_at.result.0.now c.split_at.result.1.now (omega arith) in
    record { short = omega arith; fits = nest-fits _ c.args.sheet.now c.requires.start s }

pub returns-in-Silent : goal.returns-in-Silent
returns-in-Silent c = no-data _ _ _ _ c.in-Silent.is

pub returns-in-Flat : goal.returns-in-Flat
returns-in-Flat c = flat-data _ _ _ _ _ c.in-Flat.is c.requires.short c.put.ensures

pub returns-in-Nest : goal.returns-in-Nest
returns-in-Nest c = nest-data _ _ _ _ _ _ (one-is _ _ _ _ c.in-Nest.is) (one-short _ _ c.requires.short) c.put_nest.ensures

pub returns-in-None : goal.returns-in-None
returns-in-None c =
    let n = name-short c.args.listed.first _ c.bytes.ensures (search rules) in
    nest-data _ _ _ _ _ _ (name-is _ _ _ _ c.in-Confirmed.is c.in-None.is c.bytes.ensures) (two-short _ _ c.args.first.now c.bytes.result.now (omega arith)) c.put_nest-in-None.ensures

pub returns-in-Some : goal.returns-in-Some
returns-in-Some c =
    let n = name-short c.args.listed.first _ c.bytes.ensures (search rules) in
    let m = name-short c.in-Some.name _ c.bytes-in-Some.ensures (search rules) in
    nest-data _ _ _ _ _ _ (names-are _ _ _ _ _ _ c.in-Confirmed.is c.in-Some.is c.bytes.ensures c.bytes-in-Some.ensures)
    (three-short _ _ _ c.args.first.now c.bytes.result.now c.bytes-in-Some.result.now (omega arith)) c.put_nest-in-Some.ensures

pub returns-in-Pair : goal.returns-in-Pair
returns-in-Pair c =
    nest-data _ _ _ _ _ _ (pair-is _ _ _ _ _ _ c.in-Pair.is c.min.ensures c.split_at.ensures.front c.split_at.ensures.back)
    (two-short _ _ c.split_at.result.0.now c.split_at.result.1.now (omega arith)) c.put_nest-in-Pair.ensures
