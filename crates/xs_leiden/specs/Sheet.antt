-- The sheets that the program includes.
use Rattle.std.specs.Prelude.{ℕ, List, codes}

-- Leiden core 1, each line ended by a line feed
abbrev pub leiden_core : List ℕ
leiden_core = codes "# Leiden core 1: one block of numbered lines\nxsugar-1\nstart doc\nterminal num = /[0-9]+[a-z]?/\nterminal qty = /[1-9][0-9]*/\nterminal word = /[A-Za-z\\u{C0}-\\u{D6}\\u{D8}-\\u{F6}\\u{F8}-\\u{FF}\\u{370}-\\u{3FF}\\u{1F00}-\\u{1FFF},;:\\u{B7}\\u{2019}][A-Za-z\\u{C0}-\\u{D6}\\u{D8}-\\u{F6}\\u{F8}-\\u{FF}\\u{370}-\\u{3FF}\\u{1F00}-\\u{1FFF},;:\\u{B7}\\u{2019}\\u{300}-\\u{322}\\u{324}-\\u{36F}]*/\nterminal sp = / +/\nterminal plain = /[A-Za-z\\u{C0}-\\u{D6}\\u{D8}-\\u{F6}\\u{F8}-\\u{FF}\\u{370}-\\u{3FF}\\u{1F00}-\\u{1FFF},;:\\u{B7}\\u{2019} ][A-Za-z\\u{C0}-\\u{D6}\\u{D8}-\\u{F6}\\u{F8}-\\u{FF}\\u{370}-\\u{3FF}\\u{1F00}-\\u{1FFF},;:\\u{B7}\\u{2019}\\u{300}-\\u{322}\\u{324}-\\u{36F} ]*/\nterminal letter = /[A-Za-z\\u{C0}-\\u{D6}\\u{D8}-\\u{F6}\\u{F8}-\\u{FF}\\u{370}-\\u{3FF}\\u{1F00}-\\u{1FFF}]/\nterminal marks = /[\\u{300}-\\u{322}\\u{324}-\\u{36F}]*/\nignorable ws = /[ \\t\\r\\n]*/ \"\\n\"\nignorable nl = /[ \\t\\r]*\\n[ \\t\\r\\n]*/ \"\\n\"\ndoc : \"<=\" [ws] [lines l] [ws] \"=>\" [ws] = <ab>[lines l][ws]</ab>\nlines : [line f] = [ws] [line f]\nlines : [lines b] [nl] [line f] = [lines b] [ws] [line f]\nline : [k p] = [k p]\nline : [w p] = [w p]\nline : [u p] = [u p]\nk : [num n] \". \" = <lb n=[num n]/>\nk : [num n] \".- \" = <lb n=[num n] break=\"no\"/>\nk : [k p] [mark m] = [k p] [mark m]\nk : [w p] [mark m] = [w p] [mark m]\nk : [g p] [mark m] = [g p] [mark m]\nk : [u p] [mark m] = [u p] [mark m]\nw : [k p] [word t] = [k p] [word t]\nw : [g p] [word t] = [g p] [word t]\nw : [u p] [word t] = [u p] [word t]\ng : [k p] [sp t] = [k p] [sp t]\ng : [w p] [sp t] = [w p] [sp t]\ng : [u p] [sp t] = [u p] [sp t]\nu : [k p] [run t] = [k p] <unclear>[run t]</unclear>\nu : [w p] [run t] = [w p] <unclear>[run t]</unclear>\nu : [g p] [run t] = [g p] <unclear>[run t]</unclear>\nrun : [uc a] = [uc a]\nrun : [run p] [uc a] = [run p] [uc a]\nuc : [letter c] \"\\u{323}\" [marks m] = [letter c] [marks m]\nmark : \"[.\" [qty n] \"]\" = <gap reason=\"lost\" quantity=[qty n] unit=\"character\"/>\nmark : \"[.?]\" = <gap reason=\"lost\" extent=\"unknown\" unit=\"character\"/>\nmark : \".\" [qty n] = <gap reason=\"illegible\" quantity=[qty n] unit=\"character\"/>\nmark : \".?\" = <gap reason=\"illegible\" extent=\"unknown\" unit=\"character\"/>\nmark : \"[\" [plain t] \"]\" = <supplied reason=\"lost\">[plain t]</supplied>\nmark : \"<\" [plain t] \">\" = <supplied reason=\"omitted\">[plain t]</supplied>\nmark : \"{\" [plain t] \"}\" = <surplus>[plain t]</surplus>\nmark : \"(\" [word a] \"(\" [word b] \"))\" = <expan>[word a]<ex>[word b]</ex></expan>\nmark : \"((\" [word b] \"))\" = <expan><ex>[word b]</ex></expan>\n"

-- Leiden core 2, each line ended by a line feed
abbrev pub leiden_core_2 : List ℕ
leiden_core_2 = codes "# Leiden core 2: marks inside marks\nxsugar-2\nstart doc\nterminal num = /[0-9]+[a-z]?/\nterminal qty = /[1-9][0-9]*/\nterminal word = /[A-Za-z\\u{C0}-\\u{D6}\\u{D8}-\\u{F6}\\u{F8}-\\u{FF}\\u{370}-\\u{3FF}\\u{1F00}-\\u{1FFF},;:\\u{B7}\\u{2019}][A-Za-z\\u{C0}-\\u{D6}\\u{D8}-\\u{F6}\\u{F8}-\\u{FF}\\u{370}-\\u{3FF}\\u{1F00}-\\u{1FFF},;:\\u{B7}\\u{2019}\\u{300}-\\u{322}\\u{324}-\\u{36F}]*/\nterminal sp = / +/\nterminal letter = /[A-Za-z\\u{C0}-\\u{D6}\\u{D8}-\\u{F6}\\u{F8}-\\u{FF}\\u{370}-\\u{3FF}\\u{1F00}-\\u{1FFF}]/\nterminal marks = /[\\u{300}-\\u{322}\\u{324}-\\u{36F}]*/\nignorable ws = /[ \\t\\r\\n]*/ \"\\n\"\nignorable nl = /[ \\t\\r]*\\n[ \\t\\r\\n]*/ \"\\n\"\ndoc : \"<=\" [ws] [lines l] [ws] \"=>\" [ws] = <ab>[lines l][ws]</ab>\nlines : [line f] = [ws] [line f]\nlines : [lines b] [nl] [line f] = [lines b] [ws] [line f]\nline : [k p] = [k p]\nline : [w p] = [w p]\nline : [u p] = [u p]\nk : [num n] \". \" = <lb n=[num n]/>\nk : [num n] \".- \" = <lb n=[num n] break=\"no\"/>\nk : [k p] [mark m] = [k p] [mark m]\nk : [w p] [mark m] = [w p] [mark m]\nk : [g p] [mark m] = [g p] [mark m]\nk : [u p] [mark m] = [u p] [mark m]\nw : [k p] [word t] = [k p] [word t]\nw : [g p] [word t] = [g p] [word t]\nw : [u p] [word t] = [u p] [word t]\ng : [k p] [sp t] = [k p] [sp t]\ng : [w p] [sp t] = [w p] [sp t]\ng : [u p] [sp t] = [u p] [sp t]\nu : [k p] [run t] = [k p] <unclear>[run t]</unclear>\nu : [w p] [run t] = [w p] <unclear>[run t]</unclear>\nu : [g p] [run t] = [g p] <unclear>[run t]</unclear>\nrun : [uc a] = [uc a]\nrun : [run p] [uc a] = [run p] [uc a]\nuc : [letter c] \"\\u{323}\" [marks m] = [letter c] [marks m]\nmark : \".\" [qty n] = <gap reason=\"illegible\" quantity=[qty n] unit=\"character\"/>\nmark : \".?\" = <gap reason=\"illegible\" extent=\"unknown\" unit=\"character\"/>\nmark : [deep m] = [deep m]\ndeep : \"[.\" [qty n] \"]\" = <gap reason=\"lost\" quantity=[qty n] unit=\"character\"/>\ndeep : \"[.?]\" = <gap reason=\"lost\" extent=\"unknown\" unit=\"character\"/>\ndeep : \"[\" [inner t] \"]\" = <supplied reason=\"lost\">[inner t]</supplied>\ndeep : \"<\" [inner t] \">\" = <supplied reason=\"omitted\">[inner t]</supplied>\ndeep : \"{\" [inner t] \"}\" = <surplus>[inner t]</surplus>\ndeep : \"(\" [inner a] \"(\" [inner b] \"))\" = <expan>[inner a]<ex>[inner b]</ex></expan>\ndeep : \"((\" [inner b] \"))\" = <expan><ex>[inner b]</ex></expan>\ninner : [ik p] = [ik p]\ninner : [iw p] = [iw p]\ninner : [ig p] = [ig p]\ninner : [iu p] = [iu p]\nik : [deep m] = [deep m]\nik : [ik p] [deep m] = [ik p] [deep m]\nik : [iw p] [deep m] = [iw p] [deep m]\nik : [ig p] [deep m] = [ig p] [deep m]\nik : [iu p] [deep m] = [iu p] [deep m]\niw : [word t] = [word t]\niw : [ik p] [word t] = [ik p] [word t]\niw : [ig p] [word t] = [ig p] [word t]\niw : [iu p] [word t] = [iu p] [word t]\nig : [sp t] = [sp t]\nig : [ik p] [sp t] = [ik p] [sp t]\nig : [iw p] [sp t] = [iw p] [sp t]\nig : [iu p] [sp t] = [iu p] [sp t]\niu : [run t] = <unclear>[run t]</unclear>\niu : [ik p] [run t] = [ik p] <unclear>[run t]</unclear>\niu : [iw p] [run t] = [iw p] <unclear>[run t]</unclear>\niu : [ig p] [run t] = [ig p] <unclear>[run t]</unclear>\nfence \"(\" \")\"\nfence \"[\" \"]\"\nfence \"{\" \"}\"\nfence \"<\" \">\"\n"
