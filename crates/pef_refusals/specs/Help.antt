-- What errors and notes mean, and what to do, by their numbers (docs/ERRORS.md). tools/declarations writes this file from docs/errors.table.
use Rattle.std.specs.Prelude.{◌==◌, ℕ, List, Option, None, Some, codes, if◌then◌else◌, nat_le}

-- an error of a container
unfoldable pub container_help : ℕ → Option (List ℕ)
container_help number =
    if number == 1 then Some (codes "The file ends inside the headers of a container. It is truncated, or it isn't a PEF container.")
    else if number == 2 then Some (codes "The file doesn't begin with Joy!peff, so it isn't a PEF container. `pef prepare FILE` takes a file of the Mac. If a container is inside, `pef extract FILE '#0' OUT` takes it out.")
    else if number == 3 then Some (codes "The container isn't for PowerPC. CFM-68K containers aren't read.")
    else if number == 4 then Some (codes "The container's format version isn't 1, and the format has no other. The file is damaged.")
    else if number == 5 then Some (codes "The header counts more instantiated sections than sections. The file is damaged.")
    else if number == 6 then Some (codes "A section's raw data passes the end of the file. The file is truncated, or a section header is damaged.")
    else if number == 7 then Some (codes "An instantiated section has a kind that can't be instantiated. The file is a stub library, which only linkers read, or it is damaged.")
    else if number == 8 then Some (codes "A section's image is larger than its memory, or larger than its raw data. The file is damaged.")
    else if number == 9 then Some (codes "A section's alignment is above 31. The file is damaged.")
    else if number == 10 then Some (codes "The container has no loader section. Without one it can be neither listed nor loaded.")
    else None

-- an error of a loader section
unfoldable pub loader_help : ℕ → Option (List ℕ)
loader_help number =
    if number == 11 then Some (codes "The loader section is shorter than its own header. The file is damaged.")
    else if number == 12 then Some (codes "The tables of libraries, imports and relocation headers pass the end of the loader section. A count is damaged, or the section is truncated.")
    else if number == 13 then Some (codes "The name of a library, an import or an export passes the end of the loader section. The name's offset or loaderStringsOffset is damaged.")
    else if number == 14 then Some (codes "A library counts more imports than the container has. The file is damaged.")
    else if number == 15 then Some (codes "An import belongs to no library. The file is damaged.")
    else if number == 16 then Some (codes "The main, initialization or termination entry is in a section that isn't instantiated. The file is damaged.")
    else if number == 17 then Some (codes "A relocation header names a section that isn't instantiated. The file is damaged.")
    else if number == 18 then Some (codes "A relocation program passes the end of the loader section. The file is damaged.")
    else if number == 19 then Some (codes "The table of exports passes the end of the loader section, or has too many slots. The file is damaged.")
    else if number == 20 then Some (codes "An export is in a section that isn't instantiated, or passes on an import that isn't there. The file is damaged.")
    else None

-- an error of packed data
unfoldable pub packed_help : ℕ → Option (List ℕ)
packed_help number =
    if number == 21 then Some (codes "A section's packed data ends inside an instruction. The data is truncated.")
    else if number == 22 then Some (codes "A section's packed data has an instruction that doesn't exist. The data is damaged, or isn't packed at all.")
    else if number == 23 then Some (codes "A section's packed data has a count that doesn't fit 32 bits. The data is damaged.")
    else if number == 24 then Some (codes "A section's packed data expands to more bytes than its image has. The data or unpackedSize is damaged.")
    else if number == 25 then Some (codes "A section's packed data expands to fewer bytes than its image has. unpackedSize is damaged, or the data is truncated.")
    else None

-- an error of a relocation program
unfoldable pub relocation_help : ℕ → Option (List ℕ)
relocation_help number =
    if number == 31 then Some (codes "A relocation program has an instruction that doesn't exist. The program is damaged, or relocCount is too large.")
    else if number == 32 then Some (codes "A relocation program ends inside an instruction. Its relocCount is too small.")
    else if number == 33 then Some (codes "A repeat reaches back past the start of its relocation program. The program is damaged.")
    else if number == 34 then Some (codes "A repeat begins inside an instruction of two halfwords. The relocation program is damaged.")
    else if number == 35 then Some (codes "A repeat contains another one, and the format has no nested repeats. The relocation program is damaged.")
    else if number == 36 then Some (codes "A relocation program takes more than 16,777,216 steps. It is damaged, or made to keep a loader busy.")
    else if number == 37 then Some (codes "A relocation program changes a word that passes the end of its section's memory. The program belongs to another section, or totalSize is damaged.")
    else if number == 38 then Some (codes "A relocation program adds an import that isn't there. The program is damaged.")
    else if number == 39 then Some (codes "A relocation program names a section that isn't instantiated. The program is damaged.")
    else None

-- an error of a script
unfoldable pub script_help : ℕ → Option (List ℕ)
script_help number =
    if number == 41 then Some (codes "The line isn't one of a script. Compare its words with docs/SCRIPTS.md, and look for carriage returns, tabs, double spaces and spaces at its end.")
    else if number == 42 then Some (codes "A number is spelled wrongly, or is too large. A decimal number has no leading zero, a hex number is 0x and at most eight digits, ALIGN is at most 12, and TOTAL at most 16,777,216.")
    else if number == 43 then Some (codes "The line uses a section or an import that no line above declares. Declare it first; upper and lower case differ.")
    else if number == 44 then Some (codes "An earlier line of this kind has the same name. Rename one of the two, or write a library once with all its imports after it.")
    else if number == 45 then Some (codes "The line comes too late, a second time, or as an import before any library. The order is versions, libraries with their imports, sections, contents, exports, main, init, term.")
    else if number == 46 then Some (codes "Two fixups of a section are less than 4 bytes apart, so their words overlap. Correct one of the offsets; a tvector has words at OFFSET and OFFSET + 4.")
    else if number == 47 then Some (codes "Bytes, a fixup's word or an offset pass the section's TOTAL. Raise TOTAL, or correct the offset.")
    else if number == 48 then Some (codes "The script passes a limit of docs/SCRIPTS.md. No option raises a limit, so split the script.")
    else if number == 49 then Some (codes "A word of the line isn't among the words that can be there. Use a word of docs/SCRIPTS.md, in lower case; both options together are weak,before.")
    else None

-- an error of certificates, closures, placement or connections
unfoldable pub closure_help : ℕ → Option (List ℕ)
closure_help number =
    if number == 51 then Some (codes "The line isn't one that a certificate has there. Compare it with section 9 of docs/FORMATS.md, and look for carriage returns, spaces at its end and a missing last line feed.")
    else if number == 52 then Some (codes "The certificates aren't one for each section of the script, in order. They may be those of another script.")
    else if number == 60 then Some (codes "No fragment of this name was given. Pass it under exactly this name; upper and lower case differ.")
    else if number == 61 then Some (codes "The fragment needs a library that wasn't given. Pass its container under exactly this name; upper and lower case differ. If nobody has it, `pef prepare` makes a stub of it, and `pef stubs` writes one.")
    else if number == 62 then Some (codes "The library doesn't export a symbol that the fragment needs. Pass a library that exports it, or link the fragment with the import weak.")
    else if number == 63 then Some (codes "The library is older than the oldest that the fragment accepts. Pass a newer library.")
    else if number == 64 then Some (codes "The library no longer serves a fragment that was linked with so old a version. Pass an older library, or link the fragment again with this one.")
    else if number == 65 then Some (codes "Libraries pass the symbol on in a cycle, and none of them defines it. Pass a library that defines it.")
    else if number == 66 then Some (codes "Fragments have to be initialized before each other in a cycle, and this one is in it or waits for it. Remove the option before from one library of the cycle.")
    else if number == 67 then Some (codes "No address below the limit has room for the next section. Place less, or raise the limit; that of the commands is 0x10000000.")
    else if number == 68 then Some (codes "No open connection has this number. It was closed already, or belongs to another context.")
    else if number == 69 then Some (codes "The context has given as many connections as it may, open or closed: 65,536, if no other number was asked for. Make a new context.")
    else if number == 70 then Some (codes "The relocation programs of the new fragments take more steps together than the context allows. Allow more, or leave this fragment out.")
    else None

-- an error of files, inputs or memory
unfoldable pub port_help : ℕ → Option (List ℕ)
port_help number =
    if number == 71 then Some (codes "The file couldn't be read, and nothing was written. Check that it exists and that you may read it.")
    else if number == 72 then Some (codes "The file couldn't be written, and may be missing or hold any bytes now. Check its folder, your permissions and the space on the disk, and run the command again.")
    else if number == 73 then Some (codes "Reading the standard input failed. Check the program at the other end of the pipe, and run the command again.")
    else if number == 74 then Some (codes "The standard input has more than 536,870,912 bytes. Check what was piped in: a script isn't that long.")
    else if number == 75 then Some (codes "The sections of the new fragments take more bytes together than the context allows. Allow more, or leave this fragment out.")
    else if number == 99 then Some (codes "An allocation failed. Give the program more memory.")
    else None

-- an error of a file of the classic Mac OS
unfoldable pub mac_help : ℕ → Option (List ℕ)
mac_help number =
    if number == 76 then Some (codes "The data fork of a file in MacBinary passes the end of the file. The file was cut, or its header is damaged; the fork is read as far as it goes.")
    else if number == 77 then Some (codes "The resource fork of a file in MacBinary passes the end of the file. The file was cut, or its header is damaged; the fork is read as far as it goes.")
    else if number == 78 then Some (codes "The comment of a file in MacBinary passes the end of the file. The file was cut, or its header is damaged; the forks are read.")
    else if number == 80 then Some (codes "The file has no container with this name or number. Numbers begin at #0; upper and lower case of a name differ, and a fragment for CFM-68K is found by a number alone.")
    else if number == 81 then Some (codes "The header says that it is of MacBinary II or III, and its CRC is wrong. The forks are read all the same.")
    else if number == 82 then Some (codes "The file begins as AppleSingle or AppleDouble, and ends inside its header. The file is truncated.")
    else if number == 83 then Some (codes "The file begins as AppleSingle or AppleDouble, and its version is neither 1 nor 2. The file is damaged.")
    else if number == 84 then Some (codes "The table of entries passes the end of the file. The number of entries is damaged, or the file is truncated.")
    else if number == 85 then Some (codes "An entry passes the end of the file. The file is truncated, or the entry's row is damaged; other entries can be read.")
    else if number == 86 then Some (codes "An entry has too few bytes for its fields. The length in its row is damaged.")
    else if number == 87 then Some (codes "The map of a resource fork passes the end of the fork. The fork is truncated, or it isn't a resource fork.")
    else if number == 88 then Some (codes "The type list of a resource fork passes the end of the map. The fork is damaged.")
    else if number == 89 then Some (codes "The row of a resource type passes the end of the map. The number of types is damaged, or the map is truncated.")
    else if number == 90 then Some (codes "A resource type counts more resources than the map has bytes for. The other types can be read.")
    else if number == 91 then Some (codes "The reference to a resource passes the end of the map. The type's count is damaged, or the map is truncated.")
    else if number == 92 then Some (codes "The name of a resource passes the end of the map. The resource's bytes can be read all the same.")
    else if number == 93 then Some (codes "The bytes of a resource pass the end of the fork's data. The reference or the length is damaged, or the fork is truncated.")
    else if number == 94 then Some (codes "The resource cfrg is shorter than its header. It is truncated.")
    else if number == 95 then Some (codes "The version of the resource cfrg isn't 1. It is damaged.")
    else if number == 96 then Some (codes "A member of the resource cfrg passes its end, or has too small a size, so the members after it aren't found. Search the data fork for containers.")
    else if number == 97 then Some (codes "The name of a member passes the end of the member. Its other fields can be read all the same.")
    else if number == 98 then Some (codes "The container of a member passes the end of the data fork, or there is no data fork. The fork is truncated, or lies in another file.")
    else None

-- a note
unfoldable pub note_help : ℕ → Option (List ℕ)
note_help number =
    if number == 101 then Some (codes "A reserved field isn't 0. Nothing depends on it, but the file may be damaged there.")
    else if number == 102 then Some (codes "The format doesn't name this kind of section. Nothing is done with the section.")
    else if number == 103 then Some (codes "The format doesn't name this way of sharing a section. There is one instance, as for every share.")
    else if number == 104 then Some (codes "A current version is below an oldest version beside it. Clients of some version will be refused.")
    else if number == 105 then Some (codes "An entry point is past the end of its section. Calling it would run what isn't this section's.")
    else if number == 106 then Some (codes "An export is past the end of its section. What is imported from it isn't in this section.")
    else if number == 107 then Some (codes "A program relocates a word past the image of its section. The word is in memory that begins as zeros.")
    else if number == 108 then Some (codes "The hash table doesn't lead to each export, or the names are longer than all strings together. Exports are found all the same, but by going through all of them.")
    else if number == 109 then Some (codes "Bytes follow the last part of the container. They may belong to another container, or the file is padded.")
    else if number == 110 then Some (codes "The relocation programs from this one on ask for too many steps together, and weren't verified. The file may be crafted to hang a loader.")
    else if number == 111 then Some (codes "The packed data from this section on is too long together, and wasn't verified. The file may be crafted to hang a loader.")
    else if number == 112 then Some (codes "A section has bytes that an earlier part has, too. An offset or a size may be damaged.")
    else if number == 113 then Some (codes "Bytes between two parts belong to none. An offset or a size may be damaged.")
    else if number == 114 then Some (codes "An address is added to a word to which one was added already.")
    else if number == 115 then Some (codes "Some containers of the file weren't inspected: together they ask for too much. Take each out by `pef extract FILE '#NUMBER' OUT`, and inspect it alone.")
    else if number == 116 then Some (codes "The loader section counts as instantiated, so the instantiated sections aren't the first ones. Rows of the loader section may name each section that is there.")
    else if number == 117 then Some (codes "Bytes follow the forks of a file in MacBinary. A length in its header may be damaged, or something was added to the file.")
    else if number == 118 then Some (codes "The container of a member needs more bytes than the member has. The fork was cut, or a length is damaged; the container is read up to the end of its member.")
    else if number == 119 then Some (codes "The container of a member is in the data fork, which isn't in this file. Inspect the data fork with this file beside it.")
    else if number == 120 then Some (codes "The data fork seems to be in another format, which isn't unpacked. Open it with the program that the note names, and inspect what comes out.")
    else if number == 121 then Some (codes "nameOffset is neither -1, which says that there is no name, nor the offset of a byte of the container. The section header may be damaged.")
    else if number == 122 then Some (codes "The architecture of a member of the table of fragments isn't that of its container, or is none that there is. The member may be damaged.")
    else if number == 123 then Some (codes "A member of the table of fragments has a usage that the format doesn't name. It may be damaged.")
    else if number == 124 then Some (codes "The container was probably changed as text is: its line ends, or its characters. Transfer the file again, as binary.")
    else if number == 125 then Some (codes "Rows of a table that follow each other are zero bytes. The file may have lost them. Get it again.")
    else None

-- an answer that only this library gives
unfoldable pub library_help : ℕ → Option (List ℕ)
library_help number =
    if number == 200 then Some (codes "The buffer for the result is too small. Call again with a buffer of the length that was stored.")
    else if number == 201 then Some (codes "There is nothing under this number.")
    else if number == 202 then Some (codes "The context isn't open. Open it by pef_open first.")
    else if number == 203 then Some (codes "A fragment of an open connection has a weak library of this name, and was prepared without it. Add the library after that connection is closed.")
    else if number == 204 then Some (codes "There are 256 fragments already, stubs of missing libraries among them, and no more fit. Leave out files or libraries that aren't needed, or remove fragments.")
    else if number == 205 then Some (codes "The granule isn't a power of two, or is below 16.")
    else if number == 206 then Some (codes "The size of the options isn't that of this library's struct, or the values of stub options are none. Set it to sizeof, and build with the header of this library.")
    else if number == 207 then Some (codes "The closure of an open connection has this fragment. Close its connections first.")
    else if number == 208 then Some (codes "A fragment of an open connection has a weak library of this name, whose version didn't fit. Remove this fragment after that connection is closed.")
    else if number == 209 then Some (codes "The context has a fragment with this name, which stays the first. Remove it first, or add this one by pef_add.")
    else if number == 210 then Some (codes "There are more or fewer addresses than sections that the preparation would place. pef_new_sections says how many they are.")
    else if number == 211 then Some (codes "More than 16,383 symbols are imported from a missing library, and no container can export as many. Pass the library itself.")
    else if number == 212 then Some (codes "A symbol with a name of more than 65,535 bytes is imported from a missing library, and no container can export it. The importing file is damaged.")
    else if number == 213 then Some (codes "The symbols that are imported from a missing library have too long names together for one container. Pass the library itself.")
    else if number == 214 then Some (codes "The symbols of missing libraries have no numbers left: the last one passes FFFFFFFF. Begin at a lower number, or take a smaller step.")
    else if number == 215 then Some (codes "The name of a symbol that is imported from a missing library can't be written in a script, from which a stub with memory is made. Make a stub with numbers.")
    else if number == 216 then Some (codes "The symbols that are imported from a missing library take more than 16,777,216 bytes. Give each fewer bytes, or make a stub with numbers.")
    else None

-- all of them
abbrev pub help_of : ℕ → Option (List ℕ)
help_of number =
    if nat_le number 10 then container_help number
    else if nat_le number 20 then loader_help number
    else if nat_le number 30 then packed_help number
    else if nat_le number 40 then relocation_help number
    else if nat_le number 50 then script_help number
    else if nat_le number 70 then closure_help number
    else if nat_le number 75 then port_help number
    else if nat_le number 98 then mac_help number
    else if nat_le number 100 then port_help number
    else if nat_le number 199 then note_help number
    else library_help number
