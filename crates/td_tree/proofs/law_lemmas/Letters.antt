-- Some letters that are names, as the definition computes them.
use Rattle.std.proofs.Common.{◌≡◌, true, codes, refl, arith}
use Rattle.std.specs.Str.{chars}
use Rattle.unicode_ident.proofs.Computing.{unicode_ident}
use Rattle.unicode_ident.proofs.IdentLemmas.{is_xid_start-ascii}
use Rattle.td_tree.specs.model.Keywords.{keyword_of}
use Rattle.td_tree.specs.model.Names.{is_name}

-- `unfolding letters` lets `refl` compute what begins a word and what goes on with one
unfoldable pub letters : Unit {0}
unfolding unicode_ident
letters = tt

pub k_is_name : is_name (codes "K") ≡ true
unfolding is_name chars keyword_of
k_is_name = rw (is_xid_start-ascii 75 (omega arith)) refl

pub q_is_name : is_name (codes "Q") ≡ true
unfolding is_name chars keyword_of
q_is_name = rw (is_xid_start-ascii 81 (omega arith)) refl

pub r_is_name : is_name (codes "R") ≡ true
unfolding is_name chars keyword_of
r_is_name = rw (is_xid_start-ascii 82 (omega arith)) refl

pub x_is_name : is_name (codes "X") ≡ true
unfolding is_name chars keyword_of
x_is_name = rw (is_xid_start-ascii 88 (omega arith)) refl
