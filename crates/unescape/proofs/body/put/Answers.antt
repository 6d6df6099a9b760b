use native.Mathlib.Omega.{arith}
use lib.ListN.{length-set}
use Rattle.unescape.proofs.Stores.{putting_first, putting_last, putting_next, putting_one}
use Rattle.unescape.proofs.body.put.Goals as goal

pub returns-then-len-lt1 : goal.returns-then-len-lt1
returns-then-len-lt1 c = putting_last _ _ _ _ _ 0 (putting_first _ _ _ _) (omega arith) c.requires.1

pub bounds-bytes-0 : goal.bounds-bytes-0
bounds-bytes-0 c = omega (arith, c.requires.1)

pub bounds-out-n : goal.bounds-out-n
bounds-out-n c = omega (arith, c.requires.2)

pub shape_of-out-then-len-lt2 : goal.shape_of-out-then-len-lt2
shape_of-out-then-len-lt2 c = (putting_one c.args.out.now c.args.bytes.now c.args.n c.args.len (omega arith) c.requires.1).size

pub returns-then-len-lt2 : goal.returns-then-len-lt2
returns-then-len-lt2 c = putting_last _ _ _ _ _ 1 (putting_one c.args.out.now c.args.bytes.now c.args.n c.args.len (omega arith) c.requires.1) (omega arith) c.requires.1

pub bounds-bytes-1 : goal.bounds-bytes-1
bounds-bytes-1 c = omega (arith, c.requires.1)

pub overflow_add-out : goal.overflow_add-out
overflow_add-out c = omega (arith, c.requires.2)

pub bounds-out-n-2 : goal.bounds-out-n-2
bounds-out-n-2 c = simp length-set (omega (arith, c.requires.2))

pub shape_of-out-then-len-lt3 : goal.shape_of-out-then-len-lt3
shape_of-out-then-len-lt3 c = (putting_next _ _ _ _ _ 1 (putting_one c.args.out.now c.args.bytes.now c.args.n c.args.len (omega arith) c.requires.1) (omega arith) c.requires.1).size

pub returns-then-len-lt3 : goal.returns-then-len-lt3
returns-then-len-lt3 c = putting_last _ _ _ _ _ 2 (putting_next _ _ _ _ _ 1 (putting_one c.args.out.now c.args.bytes.now c.args.n c.args.len (omega arith) c.requires.1) (omega arith) c.requires.1) (omega arith) c.requires.1

pub bounds-bytes-2 : goal.bounds-bytes-2
bounds-bytes-2 c = omega (arith, c.requires.1)

pub overflow_add-out-2 : goal.overflow_add-out-2
overflow_add-out-2 c = omega (arith, c.requires.2)

pub bounds-out-n-3 : goal.bounds-out-n-3
bounds-out-n-3 c = simp length-set (omega (arith, c.requires.2))

pub shape_of-out-then-len-lt4 : goal.shape_of-out-then-len-lt4
shape_of-out-then-len-lt4 c = (putting_next _ _ _ _ _ 2 (putting_next _ _ _ _ _ 1 (putting_one c.args.out.now c.args.bytes.now c.args.n c.args.len (omega arith) c.requires.1) (omega arith) c.requires.1) (omega arith) c.requires.1).size

pub returns-then-len-lt4 : goal.returns-then-len-lt4
returns-then-len-lt4 c = putting_last _ _ _ _ _ 3 (putting_next _ _ _ _ _ 2 (putting_next _ _ _ _ _ 1 (putting_one c.args.out.now c.args.bytes.now c.args.n c.args.len (omega arith) c.requires.1) (omega arith) c.requires.1) (omega arith) c.requires.1) (omega arith) c.requires.1

pub bounds-bytes-3 : goal.bounds-bytes-3
bounds-bytes-3 c = omega (arith, c.requires.1)

pub overflow_add-out-3 : goal.overflow_add-out-3
overflow_add-out-3 c = omega (arith, c.requires.2)

pub bounds-out-n-4 : goal.bounds-out-n-4
bounds-out-n-4 c = simp length-set (omega (arith, c.requires.2))

pub shape_of-out : goal.shape_of-out
shape_of-out c = (putting_next _ _ _ _ _ 3 (putting_next _ _ _ _ _ 2 (putting_next _ _ _ _ _ 1 (putting_one c.args.out.now c.args.bytes.now c.args.n c.args.len (omega arith) c.requires.1) (omega arith) c.requires.1) (omega arith) c.requires.1) (omega arith) c.requires.1).size

pub returns : goal.returns
returns c = putting_last _ _ _ _ _ 4 (putting_next _ _ _ _ _ 3 (putting_next _ _ _ _ _ 2 (putting_next _ _ _ _ _ 1 (putting_one c.args.out.now c.args.bytes.now c.args.n c.args.len (omega arith) c.requires.1) (omega arith) c.requires.1) (omega arith) c.requires.1) (omega arith) c.requires.1) (omega (arith, c.requires.0)) c.requires.1
